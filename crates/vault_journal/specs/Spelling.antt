-- The one spelling of each field and of each effect. This project's own.
use Rattle.std.specs.Prelude.{ℕ, ◌<◌, ◌≤◌, ◌^◌, List, ◌∷◌, ◌++◌, length}
use Rattle.std.specs.List.{flat_map, AllByRecursion}
use Rattle.std.specs.Int.{w16, w32, w64, to_be_bytes}
use Rattle.vault_state.specs.Name.{IsName}
use Rattle.vault_state.specs.Note.{IsNote}
use Rattle.vault_state.specs.Limits.{most_items}
pub use Rattle.vault_state.specs.Limits.{longest_content}
use Rattle.vault_model.specs.Said.{Effect}
use Rattle.vault_model.specs.declared.effects.Effect.TheVariants.{Made, Nested, Asked, Extended, Saved, CheckedIn, Abandoned, Given, Noted}
use Rattle.vault_state.specs.declared.ids.Intent.{Intent}
use Rattle.vault_state.specs.declared.ids.Intent.TheVariants.{Look, Change}
use Rattle.vault_state.specs.declared.claims.Item.{Item}
use Rattle.vault_journal.specs.declared.records.TheConstants.{LONGEST_RECORD}

-- a number in two bytes, the higher first
abbrev pub in_two : ℕ → List ℕ
in_two n = to_be_bytes w16 n

-- a number in four bytes, the highest first
abbrev pub in_four : ℕ → List ℕ
in_four n = to_be_bytes w32 n

-- a number in eight bytes, the highest first
abbrev pub in_eight : ℕ → List ℕ
in_eight n = to_be_bytes w64 n

-- a name: its length in one byte, and its bytes
abbrev pub name_bytes : List ℕ → List ℕ
name_bytes name = length name ∷ name

-- an intent
abbrev pub intent_byte : Intent → ℕ
intent_byte Look = 0
intent_byte Change = 1

-- an item: its intent, and its place
abbrev pub item_bytes : Item → List ℕ
item_bytes item = intent_byte item.intent ∷ in_four item.place

-- items: how many there are in one byte, and each
abbrev pub items_bytes : List Item → List ℕ
items_bytes items = length items ∷ flat_map item_bytes items

-- a content: its length in two bytes, and its bytes
abbrev pub content_bytes : List ℕ → List ℕ
content_bytes content = in_two (length content) ++ content

-- a note: its length in one byte, and its bytes
abbrev pub note_bytes : List ℕ → List ℕ
note_bytes note = length note ∷ note

-- the record of an effect
abbrev pub record_of : Effect → List ℕ
record_of (Made parent child) = 1 ∷ in_four parent ++ name_bytes child
record_of (Asked claim owner items) = 2 ∷ in_four claim ++ name_bytes owner ++ items_bytes items
record_of (Extended claim items) = 3 ∷ in_four claim ++ items_bytes items
record_of (Saved claim place content) = 4 ∷ in_four claim ++ in_four place ++ content_bytes content
record_of (CheckedIn claim) = 5 ∷ in_four claim
record_of (Abandoned claim) = 6 ∷ in_four claim
record_of (Given claim designer) = 7 ∷ in_four claim ++ name_bytes designer
record_of (Noted claim note) = 8 ∷ in_four claim ++ note_bytes note
record_of (Nested parent child) = 9 ∷ in_four parent ++ name_bytes child

-- the records of effects, one behind another
abbrev pub records_of : List Effect → List ℕ
records_of effects = flat_map record_of effects

-- the most bytes of a record
abbrev pub longest_record : ℕ
longest_record = LONGEST_RECORD

-- the number of a claim
pub record IsClaimNumber (claim : ℕ) : Type 0 where
  pub positive : 0 < claim
  pub fits : claim < 2 ^ 32

-- an item's place has four bytes
abbrev pub ItemFits : Item → Type 0
ItemFits item = item.place < 2 ^ 32

-- the items of a claim: 1 to 8
pub record AreItems (items : List Item) : Type 0 where
  pub some : 1 ≤ length items
  pub few : length items ≤ most_items
  pub fit : AllByRecursion ItemFits items

-- the effects that have a record
abbrev pub HasRecord : Effect → Type 0
HasRecord (Made parent child) = (parent < 2 ^ 32) × IsName child
HasRecord (Asked claim owner items) = IsClaimNumber claim × IsName owner × AreItems items
HasRecord (Extended claim items) = IsClaimNumber claim × AreItems items
HasRecord (Saved claim place content) = IsClaimNumber claim × (place < 2 ^ 32) × (length content ≤ longest_content)
HasRecord (CheckedIn claim) = IsClaimNumber claim
HasRecord (Abandoned claim) = IsClaimNumber claim
HasRecord (Given claim designer) = IsClaimNumber claim × IsName designer
HasRecord (Noted claim note) = IsClaimNumber claim × IsNote note
HasRecord (Nested parent child) = (parent < 2 ^ 32) × IsName child
