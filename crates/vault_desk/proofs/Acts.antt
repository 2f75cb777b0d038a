-- A vault goes on by the acts of its calls, and these are a run.
use Rattle.std.proofs.Common.{◌≡◌, List, [], ◌∷◌, ◌++◌, inl, inr, refl, sym, ap, ◌∙◌, subst}
use Rattle.group_commit.specs.World.{World, world_of, Act}
use Rattle.group_commit.specs.Runs.{Event, Within, happened, run, IsRun}
use Rattle.group_commit.specs.View.{View, view_of, ViewAllows, view_acted}
use Rattle.group_commit.specs.Seen.{VaultSeen, snapshot_length}
use Rattle.group_commit.specs.Pasts.{IsAnswered}
use Rattle.group_commit.proofs.Sound.{IsSound, first_sound, run_sound, run-append}
use Rattle.group_commit.proofs.ViewLaw.{acts_as}
use Rattle.vault_desk.specs.Acts.{view_after, AreAllowed, GoesOn, events_of, ActsAreARun}

-- it goes on from where it begins
pub begins : (view : View) → GoesOn view view
begins view = record { acts = []; allowed = tt; leads = refl }

-- and through each call
pub answered : {D : Type 0} (first : View) (old new : VaultSeen D) → GoesOn first old.view → IsAnswered old new → GoesOn first new.view
answered {D} first old new on (inl same) =
    record { acts = on.acts; allowed = on.allowed; leads = on.leads ∙ sym (ap (λ (s : VaultSeen D). s.view) same) }
answered first old new on (inr made) = record {
  acts = made.0 ∷ on.acts;
  allowed = (subst (λ (v : View). ViewAllows snapshot_length v made.0) (sym on.leads) made.1.allowed, on.allowed);
  leads = ap (λ (v : View). view_acted snapshot_length v made.0) on.leads ∙ sym made.1.made;
}

both_parts : (w : World) (xs ys : List Event) → IsRun snapshot_length w xs → IsRun snapshot_length (run snapshot_length w xs) ys → IsRun snapshot_length w (xs ++ ys)
both_parts w [] ys r q = q
both_parts w (x ∷ xs) ys r q = (r.0, both_parts (happened snapshot_length w x) xs ys r.1 q)

acts_run : (w : World) (view : View) (acts : List Act) → IsSound w → view_of w ≡ view → AreAllowed view acts
    → IsRun snapshot_length w (events_of acts) × (view_of (run snapshot_length w (events_of acts)) ≡ view_after view acts)
acts_run w view [] s e a = (tt, e)
acts_run w view (act ∷ earlier) s e a =
    let before = acts_run w view earlier s e a.1 in
    let there : World = run snapshot_length w (events_of earlier) in
    let law = acts_as snapshot_length there act (run_sound snapshot_length w (events_of earlier) before.0 s) in
    let allowed = law.allowed.1 (subst (λ (v : View). ViewAllows snapshot_length v act) (sym before.1) a.0) in (
      both_parts w (events_of earlier) (Within act ∷ []) before.0 (allowed, tt),
      ap view_of (run-append snapshot_length w (events_of earlier) (Within act ∷ [])) ∙ law.after allowed
          ∙ ap (λ (v : View). view_acted snapshot_length v act) before.1,
    )

pub acts_are_a_run : ActsAreARun
acts_are_a_run first events old new on is counts r e =
    let w : World = world_of first in
    let there : World = run snapshot_length w events in
    let more = acts_run there old on.acts (run_sound snapshot_length w events r (first_sound first is counts)) e on.allowed in
    (both_parts w events (events_of on.acts) r more.0, ap view_of (run-append snapshot_length w events (events_of on.acts)) ∙ more.1 ∙ on.leads)
