-- The entry of an acknowledged receipt stands in the single history.
use Rattle.std.proofs.Common.{◌≡◌, ℕ, zero, suc, ◌+◌, ◌-◌, ◌≤◌, List, [], ◌∷◌, ◌++◌, length, drop, Some, slice_get, refl, ap, sym, ◌∙◌, subst, arith, map}
use Rattle.std.proofs.lemmas.Option.{same_Some}
use Rattle.vault_state.specs.Vault.{Vault}
use Rattle.group_commit.specs.declared.mark.Mark.{Mark}
use Rattle.group_commit.specs.declared.mark.Mark.TheVariants as marks
use Rattle.group_commit.specs.Entries.{Entry, Kept, opened, with_mark}
use Rattle.group_commit.specs.History.{Member, Given, entry_of, members}
use Rattle.group_commit.specs.World.{World, world_of, Act, Stage, Pump, Fault, StartSnapshot, Tell, Forget, Retire, acted, history, vault_of}
use Rattle.group_commit.specs.Runs.{Event, Within, happened, run, IsRun}
use Rattle.group_commit.specs.View.{View, view_of}
use Rattle.group_commit.specs.Ticket.{Told, entry_in}
use Rattle.group_commit.specs.Positions.{HasTold}
use Rattle.group_commit.specs.Seen.{snapshot_length}
use Rattle.group_commit.proofs.Stays.{get_front}
use Rattle.group_commit.proofs.Prefixes.{get_behind}
use Rattle.group_commit.proofs.Sound.{run-append}
use Rattle.vault_desk.specs.Acts.{view_after, GoesOn, events_of}
use Rattle.vault_desk.specs.Sights.{Acknowledged, AcknowledgedStands}
use Rattle.vault_desk.proofs.Acts.{acts_are_a_run}
use Rattle.vault_desk.proofs.Seeing.{goes_further}

-- an entry of a list, whatever its mark
record IsIn (entries : List Kept) (place : ℕ) (entry : Entry) : Type 0 where
  kept : Kept
  stands : slice_get entries place ≡ Some kept
  is : kept.entry ≡ entry

marked_in : (mark : Mark) (entries : List Kept) (changed place : ℕ) (entry : Entry) → IsIn entries place entry → IsIn (with_mark mark entries changed) place entry
marked_in mark [] changed place entry i = i
marked_in mark (x ∷ xs) zero zero entry i = record { kept = record x { mark = mark }; stands = refl; is = ap (λ (k : Kept). k.entry) (same_Some x i.kept i.stands) ∙ i.is }
marked_in mark (x ∷ xs) zero (suc place) entry i = record { kept = i.kept; stands = i.stands; is = i.is }
marked_in mark (x ∷ xs) (suc changed) zero entry i = record { kept = i.kept; stands = i.stands; is = i.is }
marked_in mark (x ∷ xs) (suc changed) (suc place) entry i =
    let rest = marked_in mark xs changed place entry (record { kept = i.kept; stands = i.stands; is = i.is }) in
    record { kept = rest.kept; stands = rest.stands; is = rest.is }

-- it stays in the life, whatever act is made
stays : (w : World) (act : Act) (place : ℕ) (entry : Entry) → IsIn w.life place entry → IsIn (acted snapshot_length w act).life place entry
stays w (Stage session command) place entry i =
    record { kept = i.kept; stands = get_front w.life (opened (entry_of (vault_of w) session command) ∷ []) place i.kept i.stands; is = i.is }
stays w Pump place entry i = i
stays w Fault place entry i = i
stays w StartSnapshot place entry i = i
stays w (Tell position) place entry i = marked_in marks.Told w.life position place entry i
stays w (Forget position) place entry i = marked_in marks.Forgotten w.life position place entry i
stays w Retire place entry i = i

-- and no act changes the lives before
earlier_stays : (w : World) (act : Act) → (acted snapshot_length w act).earlier ≡ w.earlier
earlier_stays w (Stage session command) = refl
earlier_stays w Pump = refl
earlier_stays w Fault = refl
earlier_stays w StartSnapshot = refl
earlier_stays w (Tell position) = refl
earlier_stays w (Forget position) = refl
earlier_stays w Retire = refl

abbrev after : World → List Act → World
after w acts = run snapshot_length w (events_of acts)

after_act : (w : World) (act : Act) (earlier : List Act) → after w (act ∷ earlier) ≡ acted snapshot_length (after w earlier) act
after_act w act earlier = run-append snapshot_length w (events_of earlier) (Within act ∷ [])

stays_after : (w : World) (acts : List Act) (place : ℕ) (entry : Entry) → IsIn w.life place entry → IsIn (after w acts).life place entry
stays_after w [] place entry i = i
stays_after w (act ∷ earlier) place entry i =
    subst (λ (u : World). IsIn u.life place entry) (sym (after_act w act earlier)) (stays (after w earlier) act place entry (stays_after w earlier place entry i))

earlier_after : (w : World) (acts : List Act) → (after w acts).earlier ≡ w.earlier
earlier_after w [] = refl
earlier_after w (act ∷ earlier) =
    ap (λ (u : World). u.earlier) (after_act w act earlier) ∙ (earlier_stays (after w earlier) act ∙ earlier_after w earlier)

after_both : (w : World) (xs ys : List Act) → after w (ys ++ xs) ≡ after (after w xs) ys
after_both w xs [] = refl
after_both w xs (y ∷ ys) =
    after_act w y (ys ++ xs) ∙ (ap (λ (u : World). acted snapshot_length u y) (after_both w xs ys) ∙ sym (after_act (after w xs) y ys))

-- what stands behind the first entries of a list
dropped_get : (n : ℕ) (entries : List Kept) (place : ℕ) (kept : Kept) → slice_get (drop n entries) place ≡ Some kept → slice_get entries (n + place) ≡ Some kept
dropped_get zero entries place kept e =
    let same : 0 + place ≡ place = omega arith in
    subst (λ (k : ℕ). slice_get entries k ≡ Some kept) (sym same) e
dropped_get (suc n) [] place kept e = absurd cc
dropped_get (suc n) (x ∷ xs) place kept e =
    subst (λ (k : ℕ). slice_get (x ∷ xs) k ≡ Some kept) (the_next n place) (dropped_get n xs place kept e)
  where
    the_next : (n place : ℕ) → suc (n + place) ≡ suc n + place
    the_next n place = omega arith

member_get : (entries : List Kept) (place : ℕ) (kept : Kept) → slice_get entries place ≡ Some kept → slice_get (members entries) place ≡ Some (Given kept.entry)
member_get [] place kept e = absurd cc
member_get (x ∷ xs) zero kept e = ap (λ (k : Kept). Some (Given k.entry)) (same_Some x kept e)
member_get (x ∷ xs) (suc place) kept e = member_get xs place kept e

-- the entry of a receipt stands in the life of a world whose view has it
in_life : (w : World) (v : View) (told : Told) → view_of w ≡ v → HasTold v told → IsIn w.life told.position (entry_in told)
in_life w v told same h =
    let here : HasTold (view_of w) told = subst (λ (u : View). HasTold u told) (sym same) h in
    let place : w.retired + (told.position - w.retired) ≡ told.position = omega (arith, here.not_retired) in
    record {
      kept = here.kept;
      stands = subst (λ (k : ℕ). slice_get w.life k ≡ Some here.kept) place (dropped_get w.retired w.life (told.position - w.retired) here.kept here.stands);
      is = here.is;
    }

-- and so in its history
in_history : (w : World) (earlier : List Member) (place : ℕ) (entry : Entry) → w.earlier ≡ earlier → IsIn w.life place entry
    → slice_get (history w) (length earlier + place) ≡ Some (Given entry)
in_history w earlier place entry same i =
    let here : slice_get (members w.life) place ≡ Some (Given entry) = member_get w.life place i.kept i.stands ∙ ap (λ (e : Entry). Some (Given e)) i.is in
    subst (λ (l : List Member). slice_get (history w) (length l + place) ≡ Some (Given entry)) same
    (get_behind w.earlier (members w.life) place (Given entry) here)

pub acknowledged_stands : AcknowledgedStands
acknowledged_stands first events old new told is vault counts runs reaches =
    let w : World = run snapshot_length (world_of first) events in
    let on : GoesOn old new = goes_further old is.between new is.before is.after in
    let all = acts_are_a_run first events old new on vault counts runs reaches in
    let until = acts_are_a_run first events old is.between is.before vault counts runs reaches in
    let there : World = after w is.before.acts in
    let reached : view_of there ≡ is.between = sym (ap view_of (run-append snapshot_length (world_of first) events (events_of is.before.acts))) ∙ until.1 in
    let last : World = after w on.acts in
    let kept : IsIn last.life told.position (entry_in told) =
    subst (λ (u : World). IsIn u.life told.position (entry_in told)) (sym (after_both w is.before.acts is.after.acts))
    (stays_after there is.after.acts told.position (entry_in told) (in_life there is.between told reached is.has)) in
    let stands : slice_get (history last) (length w.earlier + told.position) ≡ Some (Given (entry_in told)) =
    in_history last w.earlier told.position (entry_in told) (earlier_after w on.acts) kept in (
      on.acts,
      all.0,
      all.1,
      subst (λ (u : World). slice_get (history u) (length w.earlier + told.position) ≡ Some (Given (entry_in told)))
          (sym (run-append snapshot_length (world_of first) events (events_of on.acts))) stands,
    )
