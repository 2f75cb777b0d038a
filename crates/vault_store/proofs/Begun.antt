-- Lists that begin with others.
use Rattle.std.proofs.Common.{◌≡◌, ◌≢◌, inl, inr, ℕ, zero, suc, ◌+◌, ◌<◌, ◌≤◌, true, IsTrue, List, [], ◌∷◌, ◌++◌, length, take, Some, refl, ◌∙◌, ap, arith}
use Rattle.std.specs.Prelude.{slice_get, ◌↔◌}
use Rattle.std.proofs.lemmas.Bool.{cases_lt}
use Rattle.vault_state.specs.declared.place.Place.{Place}
use Rattle.vault_state.specs.Shelf.{versions_of}
use Rattle.vault_state.specs.Tree.{is_part}
use Rattle.vault_state.specs.Vault.{AreVersions}
use Rattle.vault_store.specs.Earlier.{BeginsWith}

some_once : {A : Type 0} (x y : A) → Some y ≡ Some x → y ≡ x
some_once x y same = cc

-- where each of its elements stands there, too
pub begins_with : {A : Type 0} (whole first : List A) → ((i : ℕ) → i < length first → slice_get whole i ≡ slice_get first i) → BeginsWith whole first
begins_with whole [] each = refl
begins_with [] (x ∷ first) each = absurd (let same = each 0 (omega arith) in cc)
begins_with (y ∷ whole) (x ∷ first) each =
    ap (λ z. z ∷ take (length first) whole) (some_once x y (each 0 (omega arith)))
    ∙ ap (λ l. x ∷ l) (begins_with whole first (λ i within. each (suc i) (omega (arith, within))))

-- each stands there
pub begun_at : {A : Type 0} (whole first : List A) → BeginsWith whole first → (i : ℕ) → i < length first → slice_get whole i ≡ slice_get first i
begun_at whole [] begins i within = absurd (omega (arith, within))
begun_at [] (x ∷ first) begins i within = cc
begun_at (y ∷ whole) (x ∷ first) begins zero within = cc
begun_at (y ∷ whole) (x ∷ first) begins (suc i) within =
    let rest : take (length first) whole ≡ first = cc in begun_at whole first rest i (omega (arith, within))

pub begun_size : {A : Type 0} (whole first : List A) → BeginsWith whole first → length first ≤ length whole
begun_size whole [] begins = omega arith
begun_size [] (x ∷ first) begins = cc
begun_size (y ∷ whole) (x ∷ first) begins =
    let rest : take (length first) whole ≡ first = cc in
    let less = begun_size whole first rest in omega (arith, less)

pub begun_same : {A : Type 0} (whole : List A) → BeginsWith whole whole
begun_same [] = refl
begun_same (x ∷ whole) = ap (λ l. x ∷ l) (begun_same whole)

pub begun_more : {A : Type 0} (first more : List A) → BeginsWith (first ++ more) first
begun_more [] more = refl
begun_more (x ∷ first) more = ap (λ l. x ∷ l) (begun_more first more)

pub begun_on : {A : Type 0} (whole middle first : List A) → BeginsWith whole middle → BeginsWith middle first → BeginsWith whole first
begun_on whole middle first begins before =
    let size = begun_size middle first before in
    begins_with whole first (λ i within. begun_at whole middle begins i (omega (arith, size, within)) ∙ begun_at middle first before i within)

-- all of its elements do
pub all_same : {A : Type 0} (whole first : List A) → ((i : ℕ) → i < length first → slice_get whole i ≡ slice_get first i) → IsTrue true ↔ BeginsWith whole first
all_same whole first each = (λ holds. begins_with whole first each, λ begins. refl)

-- versions stand at places of the tree alone, so that those of its places decide
pub all_begun : (tree : List Place) (shelf later : List (List (List ℕ))) → AreVersions tree shelf → ((place : ℕ) → place < length tree + 1 → BeginsWith (versions_of later place) (versions_of shelf place))
    → (place : ℕ) → BeginsWith (versions_of later place) (versions_of shelf place)
all_begun tree shelf later are each place = elim (cases_lt place (length tree + 1)) [
  | inl inside ↦ each place inside
  | inr beyond ↦ by_versions beyond (versions_of shelf place) (are.parts place)
]
  where
    by_versions : length tree + 1 ≤ place → (versions : List (List ℕ)) → (versions ≢ [] → (place ≤ length tree) × (is_part tree place ≡ true)) → BeginsWith (versions_of later place) versions
    by_versions beyond [] parts = refl
    by_versions beyond (content ∷ versions) parts = let there = parts (λ none. cc) in absurd (omega (arith, there.0, beyond))
