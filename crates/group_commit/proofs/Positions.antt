-- Entries keep their positions over a life.
use Rattle.std.proofs.Common.{◌≡◌, ℕ, zero, suc, ◌+◌, ◌-◌, List, [], ◌∷◌, ◌++◌, length, drop, Some, refl, sym, ap, ◌∙◌, subst, arith}
use Rattle.std.specs.Prelude.{slice_get}
use Rattle.std.proofs.lemmas.Option.{same_Some}
use Rattle.group_commit.specs.declared.mark.Mark.{Mark}
use Rattle.group_commit.specs.declared.mark.Mark.TheVariants as marks
use Rattle.group_commit.specs.Entries.{Entry, Kept, opened, with_mark}
use Rattle.group_commit.specs.History.{entry_of}
use Rattle.group_commit.specs.World.{Stage, Pump, Fault, StartSnapshot, Tell, Forget, Retire}
use Rattle.group_commit.specs.View.{View, length_of, book_of}
use Rattle.group_commit.specs.Ticket.{ticket_of, told_for}
use Rattle.group_commit.specs.Positions.{HasEntry, StagedAtItsPosition, PositionsStay, ReceiptsAreOfTheirEntries, HasTold, ReceiptsAreTold}
use Rattle.group_commit.proofs.Stays.{get_front}
use Rattle.group_commit.proofs.Prefixes.{get_behind}

-- an entry of a list, whatever its mark
record IsIn (entries : List Kept) (place : ℕ) (entry : Entry) : Type 0 where
  kept : Kept
  stands : slice_get entries place ≡ Some kept
  is : kept.entry ≡ entry

marked_in : (mark : Mark) (entries : List Kept) (changed place : ℕ) (entry : Entry) → IsIn entries place entry → IsIn (with_mark mark entries changed) place entry
marked_in mark [] changed place entry i = i
marked_in mark (x ∷ xs) zero zero entry i = record { kept = record x { mark = mark }; stands = refl; is = ap (λ (k : Kept). k.entry) (same_Some x i.kept i.stands) ∙ i.is }
marked_in mark (x ∷ xs) zero (suc place) entry i = record { kept = i.kept; stands = i.stands; is = i.is }
marked_in mark (x ∷ xs) (suc changed) zero entry i = record { kept = i.kept; stands = i.stands; is = i.is }
marked_in mark (x ∷ xs) (suc changed) (suc place) entry i =
    let rest = marked_in mark xs changed place entry (record { kept = i.kept; stands = i.stands; is = i.is }) in
    record { kept = rest.kept; stands = rest.stands; is = rest.is }

dropped_in : (entries : List Kept) (place : ℕ) (kept : Kept) → slice_get entries (suc place) ≡ Some kept → slice_get (drop 1 entries) place ≡ Some kept
dropped_in [] place kept e = absurd (cc)
dropped_in (x ∷ xs) place kept e = e

marked_stays : (mark : Mark) (v : View) (changed told position : ℕ) (entry : Entry) → HasEntry v position entry → HasEntry (record v { kept = with_mark mark v.kept changed; told = told }) position entry
marked_stays mark v changed told position entry h =
    let rest = marked_in mark v.kept changed (position - v.retired) entry (record { kept = h.kept; stands = h.stands; is = h.is }) in
    record { kept = rest.kept; not_retired = h.not_retired; stands = rest.stands; is = rest.is }

pub positions_stay : PositionsStay
positions_stay v (Stage session command) position entry h more = record {
  kept = h.kept;
  not_retired = h.not_retired;
  stands = get_front v.kept (opened (entry_of (book_of v) session command) ∷ []) (position - v.retired) h.kept h.stands;
  is = h.is;
}
positions_stay v Pump position entry h more = record { kept = h.kept; not_retired = h.not_retired; stands = h.stands; is = h.is }
positions_stay v Fault position entry h more = record { kept = h.kept; not_retired = h.not_retired; stands = h.stands; is = h.is }
positions_stay v StartSnapshot position entry h more = record { kept = h.kept; not_retired = h.not_retired; stands = h.stands; is = h.is }
positions_stay v (Tell told) position entry h more = marked_stays marks.Told v (told - v.retired) (v.told + 1) position entry h
positions_stay v (Forget told) position entry h more = marked_stays marks.Forgotten v (told - v.retired) v.told position entry h
positions_stay v Retire position entry h more =
    let behind : position - v.retired ≡ suc (position - (v.retired + 1)) = omega (arith, more) in
    record {
      kept = h.kept;
      not_retired = more;
      stands = dropped_in v.kept (position - (v.retired + 1)) h.kept (subst (λ (k : ℕ). slice_get v.kept k ≡ Some h.kept) behind h.stands);
      is = h.is;
    }

pub staged_at : StagedAtItsPosition
staged_at v session command =
    let more = opened (entry_of (book_of v) session command) ∷ [] in
    let last : length v.kept + 0 ≡ length_of v - v.retired = omega arith in
    record {
      kept = opened (entry_of (book_of v) session command);
      not_retired = omega arith;
      stands = subst (λ (k : ℕ). slice_get (v.kept ++ more) k ≡ Some (opened (entry_of (book_of v) session command))) last (get_behind v.kept more 0 (opened (entry_of (book_of v) session command)) refl);
      is = refl;
    }

pub receipts_are_of : ReceiptsAreOfTheirEntries
receipts_are_of v life position entry told h r =
    r.receipt ∙ ap (told_for (ticket_of life position entry)) (ap (λ (k : Kept). k.entry.reply) (same_Some r.kept h.kept (sym r.stands ∙ h.stands)) ∙ ap (λ (e : Entry). e.reply) h.is)

-- a list whose entry at a place was marked
marked_at : (mark : Mark) (entries : List Kept) (place : ℕ) (kept : Kept) → slice_get entries place ≡ Some kept → slice_get (with_mark mark entries place) place ≡ Some (record kept { mark = mark })
marked_at mark [] place kept e = absurd (cc)
marked_at mark (x ∷ xs) zero kept e = ap (λ (k : Kept). Some (record k { mark = mark })) (same_Some x kept e)
marked_at mark (x ∷ xs) (suc place) kept e = marked_at mark xs place kept e

pub receipts_are_told : ReceiptsAreTold
receipts_are_told v life position entry told h r =
    let same : told ≡ told_for (ticket_of life position entry) entry.reply = receipts_are_of v life position entry told h r in
    let here : HasTold (record v { kept = with_mark marks.Told v.kept (position - v.retired); told = v.told + 1 }) (told_for (ticket_of life position entry) entry.reply) =
    record { kept = record h.kept { mark = marks.Told }; not_retired = h.not_retired; stands = marked_at marks.Told v.kept (position - v.retired) h.kept h.stands; is = h.is; mark = refl } in
    subst (HasTold (record v { kept = with_mark marks.Told v.kept (position - v.retired); told = v.told + 1 })) (sym same) here
