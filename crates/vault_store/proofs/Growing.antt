-- What effects never take away.
use Rattle.std.proofs.Common.{◌≡◌, ℕ, ◌+◌, ◌==◌, Bool, true, false, List, [], ◌∷◌, Option, Some, None, refl, sym, subst, arith}
use Rattle.std.proofs.lemmas.Bool.Decides.{nat_tests}
use Rattle.std.specs.Prelude.{◌&&◌}
use Rattle.std.specs.Option.{option_and_then}
use Rattle.vault_state.specs.declared.place.Place.{Place}
use Rattle.vault_state.specs.declared.place.Kind.{Kind}
use Rattle.vault_state.specs.declared.place.Kind.TheVariants.{Assembly}
use Rattle.vault_state.specs.declared.claims.Item.{Item}
use Rattle.vault_state.specs.declared.claims.Claim.{Claim}
use Rattle.vault_state.specs.declared.ids.ClaimId.TheVariants.{Long}
use Rattle.vault_model.specs.declared.effects.Effect.TheVariants as effects
use Rattle.vault_state.specs.Tree.{new_place, kind_under}
use Rattle.vault_model.specs.Said.{Effect}
use Rattle.vault_state.specs.Shelf.{Draft, versions_of, shelved, shelved_all}
use Rattle.vault_state.specs.Drafts.{drafts_of}
use Rattle.vault_state.specs.Claims.{claim_of}
use Rattle.vault_state.specs.Vault.{Vault}
use Rattle.vault_model.specs.Changes.{with_place}
use Rattle.vault_model.specs.After.{only_if, may_ask, after, after_made, after_nested, after_asked, after_extended, after_saved, after_checked_in, after_abandoned, after_given, after_noted}
use Rattle.vault_state.proofs.Shelves.{versions_of-shelved, versions_of-shelved_other}
use Rattle.vault_format.specs.Files.{applied, after_frames}
use Rattle.vault_store.specs.Earlier.{BeginsWith, IsEarlier}
use Rattle.vault_store.proofs.Begun.{begun_same, begun_more, begun_on}

pub earlier_same : (v : Vault) → IsEarlier v v
earlier_same v = record { places = begun_same v.tree; versions = λ place. begun_same (versions_of v.shelf place); numbers = omega arith }

pub earlier_on : (u v w : Vault) → IsEarlier u v → IsEarlier v w → IsEarlier u w
earlier_on u v w one two = record {
  places = begun_on w.tree v.tree u.tree two.places one.places;
  versions = λ place. begun_on (versions_of w.shelf place) (versions_of v.shelf place) (versions_of u.shelf place) (two.versions place) (one.versions place);
  numbers = omega (arith, one.numbers, two.numbers);
}

-- one version more
shelved_begins : (shelf : List (List (List ℕ))) (place : ℕ) (content : List ℕ) (other : ℕ) → BeginsWith (versions_of (shelved shelf place content) other) (versions_of shelf other)
shelved_begins shelf place content other = by_test (place == other) refl
  where
    by_test : (b : Bool) → (place == other) ≡ b → BeginsWith (versions_of (shelved shelf place content) other) (versions_of shelf other)
    by_test true same =
        let is : place ≡ other = grind (arith, nat_tests, same) in
        subst (λ (p : ℕ). BeginsWith (versions_of (shelved shelf place content) p) (versions_of shelf p)) is
        (subst (λ (l : List (List ℕ)). BeginsWith l (versions_of shelf place)) (sym (versions_of-shelved shelf place content)) (begun_more (versions_of shelf place) (content ∷ [])))
    by_test false differ =
        subst (λ (l : List (List ℕ)). BeginsWith l (versions_of shelf other)) (sym (versions_of-shelved_other shelf place content other (λ is. grind (arith, nat_tests, differ, is)))) (begun_same (versions_of shelf other))

all_shelved_begin : (shelf : List (List (List ℕ))) (drafts : List Draft) (place : ℕ) → BeginsWith (versions_of (shelved_all shelf drafts) place) (versions_of shelf place)
all_shelved_begin shelf [] place = begun_same (versions_of shelf place)
all_shelved_begin shelf (draft ∷ drafts) place =
    begun_on (versions_of (shelved_all (shelved shelf draft.place draft.content) drafts) place) (versions_of (shelved shelf draft.place draft.content) place) (versions_of shelf place)
    (all_shelved_begin (shelved shelf draft.place draft.content) drafts place) (shelved_begins shelf draft.place draft.content place)

only_if_is : (b : Bool) (w next : Vault) → only_if b w ≡ Some next → (b ≡ true) × (w ≡ next)
only_if_is true w next e = (refl, cc)
only_if_is false w next e = absurd (cc)

-- of what follows from a claim that stands
by_claim : (P : Type 0) (next : Vault) (o : Option Claim) (f : Claim → Option Vault) → ((claim : Claim) → f claim ≡ Some next → P) → option_and_then f o ≡ Some next → P
by_claim P next None f each e = absurd (cc)
by_claim P next (Some claim) f each e = each claim e

first_of_and : (a b c d e f : Bool) → (a && b && c && d && e && f) ≡ true → a ≡ true
first_of_and true b c d e f is = refl
first_of_and false b c d e f is = cc

module _ (w next : Vault) where
  -- the tree, the versions and the last number are as they were
  stays : (like : Vault) → like.tree ≡ w.tree → like.shelf ≡ w.shelf → like.last_long ≡ w.last_long → like ≡ next → IsEarlier w next
  stays like tree shelf numbers is = subst (IsEarlier w) is (record {
    places = subst (λ (t : List Place). BeginsWith t w.tree) (sym tree) (begun_same w.tree);
    versions = λ place. subst (λ (s : List (List (List ℕ))). BeginsWith (versions_of s place) (versions_of w.shelf place)) (sym shelf) (begun_same (versions_of w.shelf place));
    numbers = omega (arith, numbers);
  })

  placed : (parent : ℕ) (name : List ℕ) (kind : Kind) → with_place w parent name kind ≡ next → IsEarlier w next
  placed parent name kind is = subst (IsEarlier w) is (record {
    places = begun_more w.tree (new_place parent name kind ∷ []);
    versions = λ place. begun_same (versions_of w.shelf place);
    numbers = omega arith;
  })

  made : (parent : ℕ) (name : List ℕ) → after_made w parent name ≡ Some next → IsEarlier w next
  unfolding after_made
  made parent name e = placed parent name (kind_under w.tree parent) (only_if_is _ _ next e).1

  nested : (parent : ℕ) (name : List ℕ) → after_nested w parent name ≡ Some next → IsEarlier w next
  unfolding after_nested
  nested parent name e = placed parent name Assembly (only_if_is _ _ next e).1

  asked : (number : ℕ) (designer : List ℕ) (items : List Item) → after_asked w number designer items ≡ Some next → IsEarlier w next
  unfolding after_asked
  asked number designer items e =
      let is = only_if_is (may_ask w number items) _ next e in
      let given : (number == w.last_long + 1) ≡ true = first_of_and _ _ _ _ _ _ is.0 in
      subst (IsEarlier w) is.1 (record {
        places = begun_same w.tree;
        versions = λ place. begun_same (versions_of w.shelf place);
        numbers = grind (arith, nat_tests, given);
      })

  extended : (number : ℕ) (items : List Item) → after_extended w number items ≡ Some next → IsEarlier w next
  unfolding after_extended
  extended number items e = by_claim (IsEarlier w next) next (claim_of w.line (Long number)) _ (λ claim h. stays _ refl refl refl (only_if_is _ _ next h).1) e

  saved : (number place : ℕ) (content : List ℕ) → after_saved w number place content ≡ Some next → IsEarlier w next
  unfolding after_saved
  saved number place content e = by_claim (IsEarlier w next) next (claim_of w.line (Long number)) _ (λ claim h. stays _ refl refl refl (only_if_is _ _ next h).1) e

  checked_in : (number : ℕ) → after_checked_in w number ≡ Some next → IsEarlier w next
  unfolding after_checked_in
  checked_in number e =
      by_claim (IsEarlier w next) next (claim_of w.line (Long number)) _
      (λ claim h. subst (IsEarlier w) (only_if_is _ _ next h).1 (record {
        places = begun_same w.tree;
        versions = λ place. all_shelved_begin w.shelf (drafts_of w.drafts number) place;
        numbers = omega arith;
      })) e

  abandoned : (number : ℕ) → after_abandoned w number ≡ Some next → IsEarlier w next
  unfolding after_abandoned
  abandoned number e = stays _ refl refl refl (only_if_is _ _ next e).1

  given : (number : ℕ) (designer : List ℕ) → after_given w number designer ≡ Some next → IsEarlier w next
  unfolding after_given
  given number designer e = stays _ refl refl refl (only_if_is _ _ next e).1

  noted : (number : ℕ) (note : List ℕ) → after_noted w number note ≡ Some next → IsEarlier w next
  unfolding after_noted
  noted number note e = stays _ refl refl refl (only_if_is _ _ next e).1

grown_by : (w next : Vault) (effect : Effect) → after w effect ≡ Some next → IsEarlier w next
unfolding after
grown_by w next (effects.Made parent name) e = made w next parent name e
grown_by w next (effects.Nested parent name) e = nested w next parent name e
grown_by w next (effects.Asked number designer items) e = asked w next number designer items e
grown_by w next (effects.Extended number items) e = extended w next number items e
grown_by w next (effects.Saved number place content) e = saved w next number place content e
grown_by w next (effects.CheckedIn number) e = checked_in w next number e
grown_by w next (effects.Abandoned number) e = abandoned w next number e
grown_by w next (effects.Given number designer) e = given w next number designer e
grown_by w next (effects.Noted number note) e = noted w next number note e

-- a step, and what follows from there
grown_step : (w last : Vault) (o : Option Vault) (more : Vault → Option Vault) → ((next : Vault) → o ≡ Some next → IsEarlier w next) → ((next : Vault) → more next ≡ Some last → IsEarlier next last) → option_and_then more o ≡ Some last
    → IsEarlier w last
grown_step w last None more step rest e = absurd (cc)
grown_step w last (Some next) more step rest e = earlier_on w next last (step next refl) (rest next e)

-- effects take nothing away
pub grown : (w last : Vault) (effects : List Effect) → applied w effects ≡ Some last → IsEarlier w last
grown w last [] e = let same : w ≡ last = cc in subst (IsEarlier w) same (earlier_same w)
grown w last (effect ∷ effects) e = grown_step w last (after w effect) (λ (next : Vault). applied next effects) (λ next is. grown_by w next effect is) (λ next rest. grown next last effects rest) e

-- nor do frames
pub grown_frames : (w last : Vault) (frames : List (List Effect)) → after_frames w frames ≡ Some last → IsEarlier w last
grown_frames w last [] e = let same : w ≡ last = cc in subst (IsEarlier w) same (earlier_same w)
grown_frames w last (frame ∷ frames) e = grown_step w last (applied w frame) (λ (next : Vault). after_frames next frames) (λ next is. grown w next frame is) (λ next rest. grown_frames next last frames rest) e
