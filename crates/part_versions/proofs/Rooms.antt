-- What drafts need, draft by draft.
use Rattle.std.specs.Prelude.{◌≡◌, ℕ, ◌+◌, ◌-◌, ◌<◌, ◌≤◌, Bool, true, false, ◌&&◌, ◌==◌, nat_le, List, length, take, Some, None, All}
use Rattle.std.proofs.Common.{arith, ap, sym, refl, subst, ◌∙◌, cond, get_or}
use Rattle.std.proofs.lemmas.Bool.{lt-leb}
use Rattle.std.proofs.lemmas.List.Folds.{list_all_more, list_all_at}
use Rattle.std.proofs.lemmas.List.Sums.{AllPass-from_list_all, count_by-le-length, sum_by_more, sum_by_more_le}
use Rattle.std.proofs.lemmas.Bool.Decides.{nat_tests}
use Rattle.vault_state.specs.Shelf.{Draft, versions_of, shelved_all, content_weight, drafts_weight, weight, is_shelvable}
use Rattle.vault_state.proofs.Overlaps.{and_both}
use Rattle.vault_state.proofs.Shelves.{are_short, few_at, have_room, le_true, shelvable-is, shelf_stays, weight-shelved_all}
use Rattle.part_versions.specs.Kept.{IsSoundShelf}
use Rattle.vault_state.specs.Limits.{longest_content, most_versions, most_weight}
use Rattle.vault_state.proofs.Lists.{and_never}
use Rattle.part_versions.specs.Rooms.{weight_with, count_of}

-- there is room for a place's drafts if there is room for as many as all drafts
pub room_for_as_many : (versions : ℕ) (drafts : List Draft) (place : ℕ) → versions ≤ most_versions → length drafts ≤ most_versions - versions → nat_le (versions + count_of drafts place) most_versions ≡ true
room_for_as_many versions drafts place few h =
    let fewer = count_by-le-length (λ (draft : Draft). draft.place == place) drafts in
    let fits : versions + count_of drafts place ≤ most_versions = omega (arith, fewer, few, h) in
    grind (arith, nat_tests)

pub room_by_count : (versions count : ℕ) → versions ≤ most_versions → nat_le count (most_versions - versions) ≡ nat_le (versions + count) most_versions
room_by_count versions count few = grind (arith, nat_tests)

from_none : (t : Bool) (n : ℕ) → None ≡ cond t (Some n) None → t ≡ false
from_none true n e = cc
from_none false n e = refl

from_some : (t : Bool) (m n : ℕ) → Some m ≡ cond t (Some n) None → (t ≡ true) × (m ≡ n)
from_some true m n e = (refl, cc)
from_some false m n e = cc

-- if there is no such weight, the drafts may not be shelved
pub refused_by_weight : (shelf : List (List (List ℕ))) (drafts : List Draft) (known : ℕ) → IsSoundShelf shelf known → None ≡ weight_with known drafts → is_shelvable shelf drafts ≡ false
refused_by_weight shelf drafts known kept e =
    let P : ℕ → Type 0 = λ n. None ≡ weight_with n drafts in
    let none = from_none (are_short drafts && nat_le (weight shelf + drafts_weight drafts) most_weight) (weight shelf + drafts_weight drafts) (subst P kept.weighed e) in
    shelvable-is shelf drafts kept.shelf_is.few ∙ ap (λ t. t && have_room shelf drafts) none

-- nor if there is no room
pub refused_by_room : (shelf : List (List (List ℕ))) (drafts : List Draft) (known : ℕ) → IsSoundShelf shelf known → have_room shelf drafts ≡ false → is_shelvable shelf drafts ≡ false
refused_by_room shelf drafts known kept e =
    shelvable-is shelf drafts kept.shelf_is.few ∙ ap (λ t. are_short drafts && nat_le (weight shelf + drafts_weight drafts) most_weight && t) e ∙ and_never (are_short drafts && nat_le (weight shelf + drafts_weight drafts) most_weight)

-- else they may, and the weight is the shelf's
pub allowed : (shelf : List (List (List ℕ))) (drafts : List Draft) (known sum : ℕ) → IsSoundShelf shelf known → Some sum ≡ weight_with known drafts → have_room shelf drafts ≡ true
    → (is_shelvable shelf drafts ≡ true) × (sum ≡ weight shelf + drafts_weight drafts)
allowed shelf drafts known sum kept e room =
    let P : ℕ → Type 0 = λ n. Some sum ≡ weight_with n drafts in
    let some = from_some (are_short drafts && nat_le (weight shelf + drafts_weight drafts) most_weight) sum (weight shelf + drafts_weight drafts) (subst P kept.weighed e) in
    (shelvable-is shelf drafts kept.shelf_is.few ∙ ap (λ t. t && have_room shelf drafts) some.0 ∙ room, some.1)

-- and it isn't too much
pub not_too_heavy : (shelf : List (List (List ℕ))) (drafts : List Draft) (known sum : ℕ) → IsSoundShelf shelf known → Some sum ≡ weight_with known drafts → weight shelf + drafts_weight drafts ≤ most_weight
not_too_heavy shelf drafts known sum kept e =
    let P : ℕ → Type 0 = λ n. Some sum ≡ weight_with n drafts in
    let some = from_some (are_short drafts && nat_le (weight shelf + drafts_weight drafts) most_weight) sum (weight shelf + drafts_weight drafts) (subst P kept.weighed e) in
    let test : nat_le (weight shelf + drafts_weight drafts) most_weight ≡ true = (and_both (are_short drafts) (nat_le (weight shelf + drafts_weight drafts) most_weight) some.0).1 in
    grind (arith, nat_tests)

-- and each of them is short
pub short_drafts : (drafts : List Draft) (known sum : ℕ) → Some sum ≡ weight_with known drafts → All (λ (draft : Draft). length draft.content ≤ longest_content) drafts
short_drafts drafts known sum e = λ k d h.
    let some = from_some (are_short drafts && nat_le (known + drafts_weight drafts) most_weight) sum (known + drafts_weight drafts) e in
    let short = (and_both (are_short drafts) (nat_le (known + drafts_weight drafts) most_weight) some.0).0 in
    let test : nat_le (length (get_or drafts k d).content) longest_content ≡ true = AllPass-from_list_all (λ (draft : Draft). nat_le (length draft.content) longest_content) drafts short k d h in
    grind (arith, nat_tests)

-- what is known after all of them are appended
pub kept_after : (shelf after : List (List (List ℕ))) (drafts given : List Draft) (known sum : ℕ) → IsSoundShelf shelf known → Some sum ≡ weight_with known drafts → have_room shelf drafts ≡ true → after ≡ shelved_all shelf given → given ≡ drafts → IsSoundShelf after sum
kept_after shelf after drafts given known sum kept e room same is =
    let fits = allowed shelf drafts known sum kept e room in
    let P : List (List (List ℕ)) → Type 0 = λ s. IsSoundShelf s sum in
    subst P (sym (same ∙ ap (shelved_all shelf) is)) (record {
      shelf_is = shelf_stays shelf drafts kept.shelf_is fits.0;
      weighed = fits.1 ∙ sym (weight-shelved_all shelf drafts);
    })

-- one more draft adds the weight of its content
pub weight_more : (drafts : List Draft) (i : ℕ) (d : Draft) (content : List ℕ) → i < length drafts → content ≡ d.content → d ≡ get_or drafts i d
    → drafts_weight (take (i + 1) drafts) ≡ drafts_weight (take i drafts) + content_weight content
weight_more drafts i d content h e read =
    sum_by_more (λ (draft : Draft). content_weight draft.content) drafts i d h
    ∙ ap (λ (draft : Draft). drafts_weight (take i drafts) + content_weight draft.content) (sym read) ∙ ap (λ c. drafts_weight (take i drafts) + content_weight c) (sym e)

-- and is short if its content is
pub short_more : (drafts : List Draft) (i : ℕ) (d : Draft) (content : List ℕ) → i < length drafts → content ≡ d.content → d ≡ get_or drafts i d
    → are_short (take i drafts) ≡ true → length content ≤ longest_content → are_short (take (i + 1) drafts) ≡ true
short_more drafts i d content h e read short fits =
    list_all_more (λ (draft : Draft). nat_le (length draft.content) longest_content) drafts i d h
    ∙ ap (λ t. t && nat_le (length (get_or drafts i d).content) longest_content) short
    ∙ ap (λ (draft : Draft). nat_le (length draft.content) longest_content) (sym read) ∙ ap (λ c. nat_le (length c) longest_content) (sym e) ∙ le_true _ _ fits

-- a place's count is not over the limit
pub few_counted : (shelf now : List (List (List ℕ))) (place count : ℕ) → All (λ versions. length versions ≤ most_versions) shelf → now ≡ shelf → count ≡ length (versions_of now place) → count ≤ most_versions
few_counted shelf now place count few same is = let P : ℕ → Type 0 = λ n. n ≤ most_versions in subst P (sym (is ∙ ap (λ s. length (versions_of s place)) same)) (few_at shelf place few)

-- there is no such weight if one draft's content is too long
pub none_by_length : (known : ℕ) (drafts : List Draft) (i : ℕ) (d : Draft) (content : List ℕ) → i < length drafts → content ≡ d.content → d ≡ get_or drafts i d
    → longest_content < length content → None ≡ weight_with known drafts
none_by_length known drafts i d content h e read long =
    let test = ap (λ (draft : Draft). nat_le (length draft.content) longest_content) (sym read) ∙ ap (λ c. nat_le (length c) longest_content) (sym e) ∙ lt-leb (length content) longest_content long in
    ap (λ t. cond (t && nat_le (known + drafts_weight drafts) most_weight) (Some (known + drafts_weight drafts)) None)
    (sym (list_all_at (λ (draft : Draft). nat_le (length draft.content) longest_content) drafts i d h test))

-- nor if the first drafts are too heavy
pub none_by_weight : (known : ℕ) (drafts : List Draft) (i : ℕ) (d : Draft) (content : List ℕ) (sum : ℕ) → i < length drafts → content ≡ d.content → d ≡ get_or drafts i d
    → sum ≡ known + drafts_weight (take i drafts) → most_weight < sum + content_weight content → None ≡ weight_with known drafts
none_by_weight known drafts i d content sum h e read is heavy =
    let more = sum_by_more_le (λ (draft : Draft). content_weight draft.content) drafts i d h in
    let same = ap content_weight e ∙ ap (λ (draft : Draft). content_weight draft.content) read in
    let test = lt-leb (known + drafts_weight drafts) most_weight (omega (arith, more, same, is, heavy)) in
    ap (λ t. cond t (Some (known + drafts_weight drafts)) None) (sym (ap (λ t. are_short drafts && t) test ∙ and_never (are_short drafts)))
