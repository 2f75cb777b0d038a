-- How many bytes a record has.
use Rattle.std.proofs.Common.{◌≡◌, ℕ, ◌+◌, ◌*◌, ◌≤◌, true, List, [], ◌∷◌, ◌++◌, length, refl, ap, arith, length-append}
use Rattle.std.specs.List.{flat_map}
use Rattle.std.proofs.lemmas.List.Concat.{flat_map-cons}
use Rattle.std.proofs.lemmas.Bool.Decides.{nat_tests}
use Rattle.vault_state.specs.Name.{IsName, is_name}
use Rattle.vault_model.specs.Said.{Effect}
use Rattle.vault_model.specs.declared.effects.Effect.TheVariants.{Made, Nested, Asked, Extended, Saved, CheckedIn, Abandoned, Given, Noted}
use Rattle.vault_state.specs.declared.claims.Item.{Item}
use Rattle.vault_journal.specs.Spelling.{in_four, name_bytes, item_bytes, items_bytes, record_of}
use Rattle.vault_journal.specs.Laws.{RecordsAreShort}

pub flat_map-item_bytes : (items : List Item) → length (flat_map item_bytes items) ≡ 5 * length items
flat_map-item_bytes [] = refl
flat_map-item_bytes (i ∷ is) = omega (arith, flat_map-item_bytes is, ap length (flat_map-cons item_bytes i is), length-append (item_bytes i) (flat_map item_bytes is))

-- how many bytes a record has, by its parts
abbrev pub size_of : Effect → ℕ
size_of (Made parent child) = 6 + length child
size_of (Nested parent child) = 6 + length child
size_of (Asked claim owner items) = 7 + length owner + 5 * length items
size_of (Extended claim items) = 6 + 5 * length items
size_of (Saved claim place content) = 11 + length content
size_of (CheckedIn claim) = 5
size_of (Abandoned claim) = 5
size_of (Given claim designer) = 6 + length designer
size_of (Noted claim note) = 6 + length note

pub record_size : (effect : Effect) → length (record_of effect) ≡ size_of effect
record_size (Made parent child) = omega arith
record_size (Nested parent child) = omega arith
record_size (Asked claim owner items) = omega (arith, length-append (2 ∷ in_four claim ++ name_bytes owner) (items_bytes items), length-append (2 ∷ in_four claim) (name_bytes owner), flat_map-item_bytes items)
record_size (Extended claim items) = omega (arith, flat_map-item_bytes items)
record_size (Saved claim place content) = omega arith
record_size (CheckedIn claim) = refl
record_size (Abandoned claim) = refl
record_size (Given claim designer) = omega arith
record_size (Noted claim note) = omega arith

pub name_is_short : (name : List ℕ) → IsName name → length name ≤ 32
name_is_short name is = let known : is_name name ≡ true = is in grind (arith, nat_tests)

pub records_are_short : RecordsAreShort
records_are_short (Made parent child) has = omega (arith, record_size (Made parent child), name_is_short child has.1)
records_are_short (Nested parent child) has = omega (arith, record_size (Nested parent child), name_is_short child has.1)
records_are_short (Asked claim owner items) has = omega (arith, record_size (Asked claim owner items), name_is_short owner has.1, has.2.few)
records_are_short (Extended claim items) has = omega (arith, record_size (Extended claim items), has.1.few)
records_are_short (Saved claim place content) has = omega (arith, record_size (Saved claim place content), has.2)
records_are_short (CheckedIn claim) has = omega (arith, record_size (CheckedIn claim))
records_are_short (Abandoned claim) has = omega (arith, record_size (Abandoned claim))
records_are_short (Given claim designer) has = omega (arith, record_size (Given claim designer), name_is_short designer has.1)
records_are_short (Noted claim note) has = omega (arith, record_size (Noted claim note), has.1)

-- a record has a byte
pub record_some : (e : Effect) → 1 ≤ length (record_of e)
record_some (Made parent child) = omega (arith, record_size (Made parent child))
record_some (Nested parent child) = omega (arith, record_size (Nested parent child))
record_some (Asked claim owner items) = omega (arith, record_size (Asked claim owner items))
record_some (Extended claim items) = omega (arith, record_size (Extended claim items))
record_some (Saved claim place content) = omega (arith, record_size (Saved claim place content))
record_some (CheckedIn claim) = omega (arith, record_size (CheckedIn claim))
record_some (Abandoned claim) = omega (arith, record_size (Abandoned claim))
record_some (Given claim designer) = omega (arith, record_size (Given claim designer))
record_some (Noted claim note) = omega (arith, record_size (Noted claim note))
