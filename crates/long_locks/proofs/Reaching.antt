-- Items that look at a place, or at one under it.
use Rattle.std.specs.Prelude.{◌≡◌, ℕ, suc, ◌≤◌, ◌+◌, ◌⊎◌, Bool, true, false, List, [], ◌∷◌, ◌++◌, length, take, map, filter, slice_get, Some, All, refl}
use Rattle.std.proofs.Common.{sym, ap, subst, ◌∙◌, cond, arith, append-nil, inl, inr}
use Rattle.std.specs.List.{list_any}
use Rattle.std.proofs.lemmas.List.{take_more, take_all}
use Rattle.std.proofs.lemmas.List.Elements.{All-head, All-tail, All-get_or, filter-append}
use Rattle.std.proofs.lemmas.Option.{get_or_from_slice_get, slice_get_within}
use Rattle.vault_state.specs.declared.place.Place.{Place}
use Rattle.vault_state.specs.declared.claims.Item.{Item}
use Rattle.vault_state.specs.declared.claims.Claim.{Claim}
use Rattle.vault_state.specs.declared.ids.ClaimId.{ClaimId}
use Rattle.vault_state.specs.Tree.{is_under, IsTree}
use Rattle.vault_state.specs.Claims.{look_set, meet, claims_at}
use Rattle.vault_state.specs.Vault.{AreThere}
use Rattle.vault_state.proofs.Walks.{is_under-same}
use Rattle.vault_state.proofs.Overlaps.{or_cases, or_left, or_right, eq_itself, same_test, comparable, meet_from, meet_to}
use Rattle.long_locks.specs.InLine.{is_in_line}

-- an item of the list that passes a test, and passes any other in the list
record Found (items : List Item) (n : ℕ) (test : Item → Bool) : Type 0 where
  item : Item
  passes : test item ≡ true
  listed : (t : Item → Bool) → t item ≡ true → list_any t items ≡ true
  there : item.place ≤ n

found : (items : List Item) (n : ℕ) (test : Item → Bool) → All (λ (item : Item). item.place ≤ n) items → list_any test items ≡ true → Found items n test
found [] n test there e = cc
found (x ∷ xs) n test there e = by_first (found xs n test (All-tail (λ (item : Item). item.place ≤ n) x xs there)) (or_cases _ _ e)
  where
    by_first : (list_any test xs ≡ true → Found xs n test) → (test x ≡ true) ⊎ (list_any test xs ≡ true) → Found (x ∷ xs) n test
    by_first rest (inl h) = record { item = x; passes = h; listed = λ t k. or_left _ _ k; there = All-head (λ (item : Item). item.place ≤ n) x xs there }
    by_first rest (inr h) = let other = rest h in record { item = other.item; passes = other.passes; listed = λ t k. or_right _ _ (other.listed t k); there = other.there }

module _ (tree : List Place) (p : ℕ) where
  abbrev Beneath : ℕ → Bool
  Beneath q = is_under tree q p

  itself : (q : ℕ) → is_under tree q q ≡ true
  itself q = is_under-same tree q q (eq_itself q)

  met : p ≤ length tree → (items : List Item) → AreThere tree items → list_any (is_in_line tree p) items ≡ true → meet tree (look_set tree items) Beneath ≡ true
  met there items are e = by_side one.there (or_cases _ _ one.passes)
    where
      one : Found items (length tree) (is_in_line tree p)
      one = found items (length tree) (is_in_line tree p) are e

      by_side : one.item.place ≤ length tree → (is_under tree p one.item.place ≡ true) ⊎ (is_under tree one.item.place p ≡ true) → meet tree (look_set tree items) Beneath ≡ true
      by_side low (inl above) =
          meet_to (suc (length tree)) (look_set tree items) Beneath p (omega arith) (one.listed (λ item. is_under tree p item.place) above) (itself p)
      by_side low (inr below) =
          meet_to (suc (length tree)) (look_set tree items) Beneath one.item.place (omega arith)
          (one.listed (λ item. is_under tree one.item.place item.place) (itself one.item.place)) below

  back : IsTree tree → (items : List Item) → AreThere tree items → meet tree (look_set tree items) Beneath ≡ true → list_any (is_in_line tree p) items ≡ true
  back whole items are e =
      let place = meet_from (suc (length tree)) (look_set tree items) Beneath e in
      let one = found items (length tree) (λ item. is_under tree place.0 item.place) are place.2 in
      one.listed (is_in_line tree p) (comparable tree place.0 p one.item.place whole.parents place.3 one.passes)

  -- items have one in line with the place exactly where their look set has the place or one under it
  pub reaches : IsTree tree → p ≤ length tree → (items : List Item) → AreThere tree items → list_any (is_in_line tree p) items ≡ meet tree (look_set tree items) Beneath
  reaches whole there items are = same_test _ _ (met there items are) (back whole items are)

  abbrev Test : Claim → Bool
  Test c = meet tree (look_set tree c.items) Beneath

  one_more : (line : List Claim) (i : ℕ) (c : Claim) → slice_get line i ≡ Some c
      → claims_at tree (take (i + 1) line) p ≡ claims_at tree (take i line) p ++ claims_at tree (c ∷ []) p
  one_more line i c at =
      let cut = take_more line i c (slice_get_within line i c at) ∙ ap (λ (d : Claim). take i line ++ d ∷ []) (get_or_from_slice_get line i c c at) in
      ap (λ (cs : List Claim). claims_at tree cs p) cut
      ∙ ap (map (λ (d : Claim). d.id)) (filter-append Test (take i line) (c ∷ []))
      ∙ ids_append (filter Test (take i line)) (filter Test (c ∷ []))
    where
      ids_append : (xs ys : List Claim) → map (λ (d : Claim). d.id) (xs ++ ys) ≡ map (λ (d : Claim). d.id) xs ++ map (λ (d : Claim). d.id) ys
      ids_append [] ys = refl
      ids_append (x ∷ xs) ys = ap (λ (ids : List ClaimId). x.id ∷ ids) (ids_append xs ys)

  alone : (c : Claim) (b : Bool) → Test c ≡ b → claims_at tree (c ∷ []) p ≡ cond b (c.id ∷ []) []
  alone c b e = ap (λ (t : Bool). map (λ (d : Claim). d.id) (cond t (c ∷ []) [])) e ∙ by_test b
    where
      by_test : (t : Bool) → map (λ (d : Claim). d.id) (cond t (c ∷ []) []) ≡ cond t (c.id ∷ []) []
      by_test true = refl
      by_test false = refl

  -- a claim that looks there, behind those before it
  pub puts_one : (line : List Claim) (i : ℕ) (c : Claim) (ids more : List ClaimId) → slice_get line i ≡ Some c → Test c ≡ true
      → more ≡ ids ++ c.id ∷ [] → ids ≡ claims_at tree (take i line) p → more ≡ claims_at tree (take (i + 1) line) p
  puts_one line i c ids more at looks pushed so_far =
      pushed ∙ ap (λ (xs : List ClaimId). xs ++ c.id ∷ []) so_far
      ∙ ap (λ (xs : List ClaimId). claims_at tree (take i line) p ++ xs) (sym (alone c true looks)) ∙ sym (one_more line i c at)

  -- one that doesn't
  pub puts_none : (line : List Claim) (i : ℕ) (c : Claim) (ids : List ClaimId) → slice_get line i ≡ Some c → Test c ≡ false
      → ids ≡ claims_at tree (take i line) p → ids ≡ claims_at tree (take (i + 1) line) p
  puts_none line i c ids at looks so_far =
      so_far ∙ sym (one_more line i c at ∙ ap (λ (xs : List ClaimId). claims_at tree (take i line) p ++ xs) (alone c false looks) ∙ append-nil _)

-- the items of a claim in the line are there
pub claim_is_there : (tree : List Place) (line : List Claim) (i : ℕ) (c : Claim) → All (λ (d : Claim). AreThere tree d.items) line → slice_get line i ≡ Some c → AreThere tree c.items
claim_is_there tree line i c are at =
    subst (λ (d : Claim). AreThere tree d.items) (get_or_from_slice_get line i c c at)
    (All-get_or (λ (d : Claim). AreThere tree d.items) line i c (slice_get_within line i c at) are)

-- all of the line
pub puts_all : (tree : List Place) (p : ℕ) (line : List Claim) (i : ℕ) (ids : List ClaimId) → length line ≤ i → ids ≡ claims_at tree (take i line) p → ids ≡ claims_at tree line p
puts_all tree p line i ids past so_far = so_far ∙ ap (λ (cs : List Claim). claims_at tree cs p) (take_all i line past)
