-- Reading items one after another, as a loop does.
use Rattle.std.proofs.Common.{◌≡◌, ℕ, suc, ◌-◌, ◌+◌, ◌≤◌, ◌<◌, List, [], ◌∷◌, ◌++◌, Option, Some, None, refl, sym, ap, ◌∙◌, append_assoc, arith}
use Rattle.std.proofs.lemmas.List.{append-nil}
use Rattle.vault_state.specs.declared.claims.Item.{Item}
use Rattle.vault_journal.specs.Reading.{◌>>=◌, item_at, each_item_at}

-- what was read before, and what is still read
abbrev pub with_front : List Item → Option (List Item × List ℕ) → Option (List Item × List ℕ)
with_front front read = read >>= λ x. Some (front ++ x.0, x.1)

regroup : (front : List Item) (i : Item) (read : Option (List Item × List ℕ)) → with_front front (read >>= λ x. Some (i ∷ x.0, x.1)) ≡ with_front (front ++ i ∷ []) read
regroup front i (Some x) = ap (λ (is : List Item). Some (is, x.1)) (simp append_assoc)
regroup front i None = refl

pub goes_on : (front : List Item) (count i : ℕ) (bytes : List ℕ) (item : Item) (after : List ℕ) (total : Option (List Item × List ℕ)) → i < count → item_at bytes ≡ Some (item, after)
    → with_front front (each_item_at (count - i) bytes) ≡ total → with_front (front ++ item ∷ []) (each_item_at (count - (i + 1)) after) ≡ total
unfolding each_item_at
goes_on front count i bytes item after total lt h so_far =
    let k : count - i ≡ suc (count - (i + 1)) = omega arith in
    let one : with_front front (each_item_at (count - i) bytes) ≡ with_front (front ++ item ∷ []) (each_item_at (count - (i + 1)) after) = rw (k, h) (regroup front item (each_item_at (count - (i + 1)) after)) in
    sym one ∙ so_far

pub ends : (front : List Item) (count i : ℕ) (bytes : List ℕ) (total : Option (List Item × List ℕ)) → i < count → item_at bytes ≡ None → with_front front (each_item_at (count - i) bytes) ≡ total → total ≡ None
unfolding each_item_at
ends front count i bytes total lt h so_far =
    let k : count - i ≡ suc (count - (i + 1)) = omega arith in
    let one : with_front front (each_item_at (count - i) bytes) ≡ None = rw (k, h) refl in
    sym so_far ∙ one

pub is_done : (front : List Item) (count i : ℕ) (bytes : List ℕ) (total : Option (List Item × List ℕ)) → count ≤ i → with_front front (each_item_at (count - i) bytes) ≡ total → total ≡ Some (front, bytes)
unfolding each_item_at
is_done front count i bytes total le so_far =
    let k : count - i ≡ 0 = omega arith in
    let one : with_front front (each_item_at (count - i) bytes) ≡ Some (front, bytes) = rw k (ap (λ (is : List Item). Some (is, bytes)) (append-nil front)) in
    sym so_far ∙ one
