-- Shelves: what one more version, and many more, change.
use Rattle.std.specs.Prelude.{◌≡◌, ◌≢◌, ◌⊎◌, ℕ, zero, suc, ◌+◌, ◌≤◌, Bool, true, false, ◌&&◌, ◌==◌, nat_le, List, [], ◌∷◌, ◌++◌, length, map, filter, slice_index_or, count_by, All, max}
use Rattle.std.specs.List.{list_all}
use Rattle.std.proofs.Common.{arith, ap, sym, subst, refl, ◌∙◌, inl, inr, cond, eqb}
use Rattle.std.specs.Cmp.{both_ways}
use Rattle.std.proofs.lemmas.Bool.{cases_lt}
use Rattle.std.proofs.lemmas.List.{length_push, get_or_past, get_or_default, append_assoc, append-nil}
use Rattle.std.proofs.lemmas.List.Sums.{sum_by-cons, sum_by_push, AllPass-from_list_all, list_all-from_AllPass}
use Rattle.std.proofs.lemmas.List.Elements.{All-nil, All-cons, All-head, All-tail, All-push}
use Rattle.std.proofs.lemmas.Bool.Decides.{nat_tests, eqb_tells}
use Rattle.vault_state.specs.Shelf.{Draft, versions_of, shelved, shelved_all, content_weight, versions_weight, weight, drafts_weight, is_shelvable, IsShelf}
use Rattle.vault_state.proofs.Overlaps.{and_both}
use Rattle.vault_state.specs.Limits.{longest_content, most_versions, most_weight}

-- the place has one version more
pub versions_of-shelved : (shelf : List (List (List ℕ))) (place : ℕ) (content : List ℕ) → versions_of (shelved shelf place content) place ≡ versions_of shelf place ++ content ∷ []
versions_of-shelved [] zero content = refl
versions_of-shelved [] (suc place) content = versions_of-shelved [] place content
versions_of-shelved (versions ∷ shelf) zero content = refl
versions_of-shelved (versions ∷ shelf) (suc place) content = versions_of-shelved shelf place content

-- and no other place has
pub versions_of-shelved_other : (shelf : List (List (List ℕ))) (place : ℕ) (content : List ℕ) (other : ℕ) → place ≢ other → versions_of (shelved shelf place content) other ≡ versions_of shelf other
versions_of-shelved_other [] zero content zero differ = absurd (differ refl)
versions_of-shelved_other [] zero content (suc other) differ = refl
versions_of-shelved_other [] (suc place) content zero differ = refl
versions_of-shelved_other [] (suc place) content (suc other) differ = versions_of-shelved_other [] place content other (λ e. differ (ap suc e))
versions_of-shelved_other (versions ∷ shelf) zero content zero differ = absurd (differ refl)
versions_of-shelved_other (versions ∷ shelf) zero content (suc other) differ = refl
versions_of-shelved_other (versions ∷ shelf) (suc place) content zero differ = refl
versions_of-shelved_other (versions ∷ shelf) (suc place) content (suc other) differ = versions_of-shelved_other shelf place content other (λ e. differ (ap suc e))

-- a shelf ends at its own last place, or at the version's
pub length-shelved : (shelf : List (List (List ℕ))) (place : ℕ) (content : List ℕ) → length (shelved shelf place content) ≡ max (length shelf) (place + 1)
length-shelved [] zero content = refl
length-shelved [] (suc place) content = let rest = length-shelved [] place content in omega arith
length-shelved (versions ∷ shelf) zero content = omega arith
length-shelved (versions ∷ shelf) (suc place) content = let rest = length-shelved shelf place content in omega arith

weight-empty : (versions : List (List ℕ)) (shelf : List (List (List ℕ))) → weight (versions ∷ shelf) ≡ versions_weight versions + weight shelf
weight-empty versions shelf = sum_by-cons versions_weight versions shelf

-- a version adds what it weighs
pub weight-shelved : (shelf : List (List (List ℕ))) (place : ℕ) (content : List ℕ) → weight (shelved shelf place content) ≡ weight shelf + content_weight content
weight-shelved [] zero content = omega arith
weight-shelved [] (suc place) content =
    let more = sum_by-cons versions_weight [] (shelved [] place content) in
    let rest = weight-shelved [] place content in
    omega arith
weight-shelved (versions ∷ shelf) zero content =
    let before = sum_by-cons versions_weight versions shelf in
    let after = sum_by-cons versions_weight (versions ++ content ∷ []) shelf in
    let pushed = sum_by_push content_weight versions content in
    omega arith
weight-shelved (versions ∷ shelf) (suc place) content =
    let before = sum_by-cons versions_weight versions shelf in
    let after = sum_by-cons versions_weight versions (shelved shelf place content) in
    let rest = weight-shelved shelf place content in
    omega arith

pub weight-shelved_all : (shelf : List (List (List ℕ))) (drafts : List Draft) → weight (shelved_all shelf drafts) ≡ weight shelf + drafts_weight drafts
weight-shelved_all shelf [] = omega arith
weight-shelved_all shelf (draft ∷ drafts) =
    let one = weight-shelved shelf draft.place draft.content in
    let rest = weight-shelved_all (shelved shelf draft.place draft.content) drafts in
    let added = sum_by-cons (λ (d : Draft). content_weight d.content) draft drafts in
    omega arith

-- a place has one version more for each draft of it
pub count-shelved_all : (shelf : List (List (List ℕ))) (drafts : List Draft) (place : ℕ)
    → length (versions_of (shelved_all shelf drafts) place) ≡ length (versions_of shelf place) + count_by (λ (d : Draft). d.place == place) drafts
count-shelved_all shelf [] place = omega arith
count-shelved_all shelf (draft ∷ drafts) place =
    count-shelved_all (shelved shelf draft.place draft.content) drafts place ∙ one (eqb_tells draft.place place)
  where
    one : ((eqb draft.place place ≡ true) × (draft.place ≡ place)) ⊎ ((eqb draft.place place ≡ false) × (draft.place ≢ place))
        → length (versions_of (shelved shelf draft.place draft.content) place) + count_by (λ (d : Draft). d.place == place) drafts ≡ length (versions_of shelf place) + count_by (λ (d : Draft). d.place == place) (draft ∷ drafts)
    one (inl h) =
        let counted = sum_by-cons (λ (d : Draft). cond (d.place == place) 1 0) draft drafts in
        let first : ◌≡◌ {A = ℕ} (cond (draft.place == place) 1 0) 1 = ap (λ b. cond b 1 0) h.0 in
        let P : ℕ → Type 0 = λ p. length (versions_of (shelved shelf draft.place draft.content) p) ≡ length (versions_of shelf p) + 1 in
        let longer = subst P h.1 (ap length (versions_of-shelved shelf draft.place draft.content) ∙ length_push (versions_of shelf draft.place) draft.content) in
        omega (arith, counted, first, longer)
    one (inr h) =
        let counted = sum_by-cons (λ (d : Draft). cond (d.place == place) 1 0) draft drafts in
        let first : ◌≡◌ {A = ℕ} (cond (draft.place == place) 1 0) 0 = ap (λ b. cond b 1 0) h.0 in
        let same = ap length (versions_of-shelved_other shelf draft.place draft.content place h.1) in
        omega (arith, counted, first, same)

-- whether each draft's content is short enough
abbrev pub are_short : List Draft → Bool
are_short drafts = list_all (λ (d : Draft). nat_le (length d.content) longest_content) drafts

-- whether no draft's place gets too many versions
abbrev pub have_room : List (List (List ℕ)) → List Draft → Bool
have_room shelf drafts = list_all (λ (d : Draft). nat_le (length (versions_of shelf d.place) + count_by (λ (e : Draft). e.place == d.place) drafts) most_versions) drafts

-- this bound is kept at each place, on the shelf's list or past its end
pub few_at : (shelf : List (List (List ℕ))) (place : ℕ) → All (λ versions. length versions ≤ most_versions) shelf → length (versions_of shelf place) ≤ most_versions
few_at shelf place few = elim (cases_lt place (length shelf)) [
  | inl inside ↦ few place [] inside
  | inr past ↦ let none = ap length (get_or_past shelf place [] past) in omega (arith, none)
]

-- a draft's place doesn't get too many versions
abbrev HasRoom : List (List (List ℕ)) → List Draft → Draft → Type 0
HasRoom shelf all d = length (versions_of shelf d.place) + count_by (λ (e : Draft). e.place == d.place) all ≤ most_versions

-- a place has no draft among these, or its bound is known from one
drafted : (shelf : List (List (List ℕ))) (all drafts : List Draft) (place : ℕ)
    → All (HasRoom shelf all) drafts
    → (count_by (λ (e : Draft). e.place == place) drafts ≡ 0) ⊎ (length (versions_of shelf place) + count_by (λ (e : Draft). e.place == place) all ≤ most_versions)
drafted shelf all [] place bound = inl refl
drafted shelf all (draft ∷ drafts) place bound =
    by_first (eqb_tells draft.place place) (drafted shelf all drafts place (All-tail (HasRoom shelf all) draft drafts bound))
  where
    by_first : ((eqb draft.place place ≡ true) × (draft.place ≡ place)) ⊎ ((eqb draft.place place ≡ false) × (draft.place ≢ place))
        → (count_by (λ (e : Draft). e.place == place) drafts ≡ 0) ⊎ (length (versions_of shelf place) + count_by (λ (e : Draft). e.place == place) all ≤ most_versions)
        → (count_by (λ (e : Draft). e.place == place) (draft ∷ drafts) ≡ 0) ⊎ (length (versions_of shelf place) + count_by (λ (e : Draft). e.place == place) all ≤ most_versions)
    by_first (inl h) rest =
        let P : ℕ → Type 0 = λ p. length (versions_of shelf p) + count_by (λ (e : Draft). e.place == p) all ≤ most_versions in
        inr (subst P h.1 (All-head (HasRoom shelf all) draft drafts bound))
    by_first (inr h) (inl none) =
        let counted = sum_by-cons (λ (d : Draft). cond (d.place == place) 1 0) draft drafts in
        let first : ◌≡◌ {A = ℕ} (cond (draft.place == place) 1 0) 0 = ap (λ b. cond b 1 0) h.0 in
        inl (omega (arith, counted, first, none))
    by_first (inr h) (inr bounded) = inr bounded

pub le_true : (m n : ℕ) → m ≤ n → nat_le m n ≡ true
le_true m n h = grind (arith, nat_tests)

pub true_le : (m n : ℕ) → nat_le m n ≡ true → m ≤ n
true_le m n h = grind (arith, nat_tests)

-- no part has too many versions with all drafts exactly where no draft's place gets too many
few-shelved_all : (shelf : List (List (List ℕ))) (drafts : List Draft) → All (λ versions. length versions ≤ most_versions) shelf
    → list_all (λ versions. nat_le (length versions) most_versions) (shelved_all shelf drafts) ≡ have_room shelf drafts
few-shelved_all shelf drafts few = both_ways _ _ there back
  where
    there : list_all (λ versions. nat_le (length versions) most_versions) (shelved_all shelf drafts) ≡ true → have_room shelf drafts ≡ true
    there e = list_all-from_AllPass (λ (d : Draft). nat_le (length (versions_of shelf d.place) + count_by (λ (e : Draft). e.place == d.place) drafts) most_versions) drafts (λ k d h.
        let place = (slice_index_or drafts k d).place in
        let after = few_at (shelved_all shelf drafts) place (λ i v inside. true_le _ _ (AllPass-from_list_all (λ versions. nat_le (length versions) most_versions) (shelved_all shelf drafts) e i v inside)) in
        le_true _ _ (omega (arith, count-shelved_all shelf drafts place, after)))

    back : have_room shelf drafts ≡ true → list_all (λ versions. nat_le (length versions) most_versions) (shelved_all shelf drafts) ≡ true
    back e = list_all-from_AllPass (λ versions. nat_le (length versions) most_versions) (shelved_all shelf drafts) (λ p v h.
        let bound : All (HasRoom shelf drafts) drafts =
        λ i d inside. true_le _ _ (AllPass-from_list_all (λ (d : Draft). nat_le (length (versions_of shelf d.place) + count_by (λ (e : Draft). e.place == d.place) drafts) most_versions) drafts e i d inside) in
        let same = ap length (get_or_default (shelved_all shelf drafts) p v [] h) in
        le_true _ _ (elim (drafted shelf drafts drafts p bound) [
          | inl none ↦ omega (arith, same, count-shelved_all shelf drafts p, none, few_at shelf p few)
          | inr bounded ↦ omega (arith, same, count-shelved_all shelf drafts p, bounded)
        ]))

-- what decides whether drafts may be shelved: their contents, the weight and each draft's place
pub shelvable-is : (shelf : List (List (List ℕ))) (drafts : List Draft) → All (λ versions. length versions ≤ most_versions) shelf
    → is_shelvable shelf drafts ≡ (are_short drafts && nat_le (weight shelf + drafts_weight drafts) most_weight && have_room shelf drafts)
unfolding is_shelvable
shelvable-is shelf drafts few =
    ap (λ b. are_short drafts && b && nat_le (weight (shelved_all shelf drafts)) most_weight) (few-shelved_all shelf drafts few)
    ∙ ap (λ n. are_short drafts && have_room shelf drafts && nat_le n most_weight) (weight-shelved_all shelf drafts)
    ∙ swapped (are_short drafts) (have_room shelf drafts) _
  where
    swapped : (a b c : Bool) → (a && b && c) ≡ (a && c && b)
    swapped true true true = refl
    swapped true true false = refl
    swapped true false true = refl
    swapped true false false = refl
    swapped false b c = refl

-- what is true of no versions, and stays true with the content added, stays true of each place
all_shelved : (P : List (List ℕ) → Type 0) (content : List ℕ) → P [] → ((versions : List (List ℕ)) → P versions → P (versions ++ content ∷ []))
    → (shelf : List (List (List ℕ))) (place : ℕ) → All P shelf → All P (shelved shelf place content)
all_shelved P content none more [] zero all = All-cons P (content ∷ []) [] (more [] none) (All-nil P)
all_shelved P content none more [] (suc place) all = All-cons P [] (shelved [] place content) none (all_shelved P content none more [] place (All-nil P))
all_shelved P content none more (versions ∷ shelf) zero all = All-cons P (versions ++ content ∷ []) shelf (more versions (All-head P versions shelf all)) (All-tail P versions shelf all)
all_shelved P content none more (versions ∷ shelf) (suc place) all =
    All-cons P versions (shelved shelf place content) (All-head P versions shelf all) (all_shelved P content none more shelf place (All-tail P versions shelf all))

-- contents that are short enough
abbrev AreShort : List (List ℕ) → Type 0
AreShort versions = All (λ content. length content ≤ longest_content) versions

short-shelved_all : (shelf : List (List (List ℕ))) (drafts : List Draft) → All AreShort shelf → are_short drafts ≡ true → All AreShort (shelved_all shelf drafts)
short-shelved_all shelf [] all e = all
short-shelved_all shelf (draft ∷ drafts) all e =
    let first : length draft.content ≤ longest_content = true_le _ _ (and_both _ _ e).0 in
    let one = all_shelved AreShort draft.content (All-nil (λ content. length content ≤ longest_content)) (λ versions h. All-push (λ content. length content ≤ longest_content) versions draft.content h first) shelf draft.place all in
    short-shelved_all (shelved shelf draft.place draft.content) drafts one (and_both _ _ e).1

-- the last place of a shelf has a version
abbrev IsTrimmed : List (List (List ℕ)) → Type 0
IsTrimmed shelf = (place : ℕ) → suc place ≡ length shelf → versions_of shelf place ≢ []

trimmed-shelved : (shelf : List (List (List ℕ))) (place : ℕ) (content : List ℕ) → IsTrimmed shelf → IsTrimmed (shelved shelf place content)
trimmed-shelved shelf place content trimmed last e = by_place (eqb_tells place last)
  where
    by_place : ((eqb place last ≡ true) × (place ≡ last)) ⊎ ((eqb place last ≡ false) × (place ≢ last)) → versions_of (shelved shelf place content) last ≢ []
    by_place (inl h) none =
        let P : ℕ → Type 0 = λ p. versions_of (shelved shelf place content) p ≡ versions_of shelf place ++ content ∷ [] in
        let longer = subst P h.1 (versions_of-shelved shelf place content) in
        absurd (omega (arith, ap length longer, ap length none, length_push (versions_of shelf place) content))
    by_place (inr h) none =
        let whole : suc last ≡ length shelf = omega (arith, h.1, e, length-shelved shelf place content) in
        trimmed last whole (sym (versions_of-shelved_other shelf place content last h.1) ∙ none)

trimmed-shelved_all : (shelf : List (List (List ℕ))) (drafts : List Draft) → IsTrimmed shelf → IsTrimmed (shelved_all shelf drafts)
trimmed-shelved_all shelf [] trimmed = trimmed
trimmed-shelved_all shelf (draft ∷ drafts) trimmed = trimmed-shelved_all (shelved shelf draft.place draft.content) drafts (trimmed-shelved shelf draft.place draft.content trimmed)

-- no versions at all
pub none_shelved : IsShelf []
none_shelved = record {
  short = All-nil AreShort;
  few = All-nil (λ (versions : List (List ℕ)). length versions ≤ most_versions);
  light = omega arith;
  trimmed = λ place e. absurd (omega (arith, e));
}

-- a shelf stays one
pub shelf_stays : (shelf : List (List (List ℕ))) (drafts : List Draft) → IsShelf shelf → is_shelvable shelf drafts ≡ true → IsShelf (shelved_all shelf drafts)
unfolding is_shelvable
shelf_stays shelf drafts kept e =
    let outer = and_both _ _ e in
    let inner = and_both _ _ outer.0 in
    record {
      short = short-shelved_all shelf drafts kept.short inner.0;
      few = λ k d h. true_le _ _ (AllPass-from_list_all (λ versions. nat_le (length versions) most_versions) (shelved_all shelf drafts) inner.1 k d h);
      light = true_le _ _ outer.1;
      trimmed = trimmed-shelved_all shelf drafts kept.trimmed;
    }

-- behind a place's versions come the contents of its drafts
pub versions_of-shelved_all : (shelf : List (List (List ℕ))) (drafts : List Draft) (place : ℕ)
    → versions_of (shelved_all shelf drafts) place ≡ versions_of shelf place ++ map (λ (d : Draft). d.content) (filter (λ (d : Draft). d.place == place) drafts)
versions_of-shelved_all shelf [] place = sym (append-nil (versions_of shelf place))
versions_of-shelved_all shelf (draft ∷ drafts) place = versions_of-shelved_all (shelved shelf draft.place draft.content) drafts place ∙ one (eqb_tells draft.place place)
  where
    one : ((eqb draft.place place ≡ true) × (draft.place ≡ place)) ⊎ ((eqb draft.place place ≡ false) × (draft.place ≢ place))
        → versions_of (shelved shelf draft.place draft.content) place ++ map (λ (d : Draft). d.content) (filter (λ (d : Draft). d.place == place) drafts)
        ≡ versions_of shelf place ++ map (λ (d : Draft). d.content) (filter (λ (d : Draft). d.place == place) (draft ∷ drafts))
    one (inl h) =
        let P : ℕ → Type 0 = λ p. versions_of (shelved shelf draft.place draft.content) p ≡ versions_of shelf p ++ draft.content ∷ [] in
        ap (λ v. v ++ map (λ (d : Draft). d.content) (filter (λ (d : Draft). d.place == place) drafts)) (subst P h.1 (versions_of-shelved shelf draft.place draft.content))
        ∙ append_assoc (versions_of shelf place) (draft.content ∷ []) (map (λ (d : Draft). d.content) (filter (λ (d : Draft). d.place == place) drafts))
        ∙ ap (λ b. versions_of shelf place ++ map (λ (d : Draft). d.content) (cond b (draft ∷ filter (λ (d : Draft). d.place == place) drafts) (filter (λ (d : Draft). d.place == place) drafts))) (sym h.0)
    one (inr h) =
        ap (λ v. v ++ map (λ (d : Draft). d.content) (filter (λ (d : Draft). d.place == place) drafts)) (versions_of-shelved_other shelf draft.place draft.content place h.1)
        ∙ ap (λ b. versions_of shelf place ++ map (λ (d : Draft). d.content) (cond b (draft ∷ filter (λ (d : Draft). d.place == place) drafts) (filter (λ (d : Draft). d.place == place) drafts))) (sym h.0)
