-- Single fields at the front of bytes. `specs/Laws.antt` ties each to its spelling.
use Rattle.std.specs.Prelude.{◌≡◌, ℕ, zero, suc, List, [], ◌∷◌, length, take, drop, Option, Some, None, Result, Ok, Err, nat_lt, nat_le, ◌==◌, ◌&&◌, if◌then◌else◌}
use Rattle.std.specs.Int.{w16, w32, w64, from_be_bytes}
use Rattle.vault_state.specs.Name.{is_name}
use Rattle.vault_state.specs.Note.{is_note}
use Rattle.vault_state.specs.Limits.{most_items}
use Rattle.vault_model.specs.Said.{Effect}
use Rattle.vault_model.specs.declared.effects.Effect.TheVariants.{Made, Nested, Asked, Extended, Saved, CheckedIn, Abandoned, Given, Noted}
use Rattle.vault_state.specs.declared.ids.Intent.TheVariants.{Look, Change}
use Rattle.vault_state.specs.declared.claims.Item.{Item}
use Rattle.vault_journal.specs.declared.records.ReadError.{ReadError}
use Rattle.vault_journal.specs.declared.records.ReadError.TheVariants.{Memory, NotOne}
use Rattle.vault_journal.specs.Spelling.{longest_content}

infixl 10 ◌>>=◌
abbrev pub ◌>>=◌ : {A B : Type 0} → Option A → (A → Option B) → Option B
(Some x) >>= f = f x
None >>= f = None

-- a reader returned what stands at the front, seen through view, or None where no such field stands there
abbrev pub Reads : {X Y : Type 0} → (X → Y) → Option X → Option Y → Type 0
Reads view (Some x) front = front ≡ Some (view x)
Reads view None front = front ≡ None

-- the same, unless memory was refused
abbrev pub Gives : {X Y : Type 0} → (X → Y) → Result X ReadError → Option Y → Type 0
Gives view (Ok x) front = front ≡ Some (view x)
Gives view (Err Memory) front = Unit {0}
Gives view (Err NotOne) front = front ≡ None

-- the first byte
abbrev pub u8_at : List ℕ → Option (ℕ × List ℕ)
u8_at [] = None
u8_at (byte ∷ rest) = Some (byte, rest)

-- the number in two bytes
abbrev pub u16_at : List ℕ → Option (ℕ × List ℕ)
u16_at bytes = if nat_lt (length bytes) 2 then None else Some (from_be_bytes w16 (take 2 bytes), drop 2 bytes)

-- the number in four bytes
abbrev pub u32_at : List ℕ → Option (ℕ × List ℕ)
u32_at bytes = if nat_lt (length bytes) 4 then None else Some (from_be_bytes w32 (take 4 bytes), drop 4 bytes)

-- the number in eight bytes
abbrev pub u64_at : List ℕ → Option (ℕ × List ℕ)
u64_at bytes = if nat_lt (length bytes) 8 then None else Some (from_be_bytes w64 (take 8 bytes), drop 8 bytes)

-- the first n bytes
abbrev pub bytes_at : ℕ → List ℕ → Option (List ℕ × List ℕ)
bytes_at n bytes = if nat_lt (length bytes) n then None else Some (take n bytes, drop n bytes)

-- the name
unfoldable pub name_at : List ℕ → Option (List ℕ × List ℕ)
name_at bytes = do
  count ← u8_at bytes
  name ← bytes_at count.0 count.1
  if is_name name.0 then Some name else None

-- the note
unfoldable pub note_at : List ℕ → Option (List ℕ × List ℕ)
note_at bytes = do
  count ← u8_at bytes
  note ← bytes_at count.0 count.1
  if is_note note.0 then Some note else None

-- the item
unfoldable pub item_at : List ℕ → Option (Item × List ℕ)
item_at [] = None
item_at (zero ∷ rest) = do
  place ← u32_at rest
  Some (record { intent = Look; place = place.0 }, place.1)
item_at (suc zero ∷ rest) = do
  place ← u32_at rest
  Some (record { intent = Change; place = place.0 }, place.1)
item_at (suc (suc _) ∷ rest) = None

-- the first items, as many as the number says
unfoldable pub each_item_at : ℕ → List ℕ → Option (List Item × List ℕ)
each_item_at zero bytes = Some ([], bytes)
each_item_at (suc n) bytes = do
  first ← item_at bytes
  others ← each_item_at n first.1
  Some (first.0 ∷ others.0, others.1)

-- the items of a claim
unfoldable pub items_at : List ℕ → Option (List Item × List ℕ)
items_at bytes = do
  count ← u8_at bytes
  if nat_le 1 count.0 && nat_le count.0 most_items then each_item_at count.0 count.1 else None

-- the content
unfoldable pub content_at : List ℕ → Option (List ℕ × List ℕ)
content_at bytes = do
  count ← u16_at bytes
  if nat_le count.0 longest_content then bytes_at count.0 count.1 else None

-- the number of a claim
unfoldable pub claim_at : List ℕ → Option (ℕ × List ℕ)
claim_at bytes = do
  claim ← u32_at bytes
  if claim.0 == 0 then None else Some claim

unfoldable pub made_at : List ℕ → Option (Effect × List ℕ)
made_at bytes = do
  parent ← u32_at bytes
  child ← name_at parent.1
  Some (Made parent.0 child.0, child.1)

unfoldable pub asked_at : List ℕ → Option (Effect × List ℕ)
asked_at bytes = do
  claim ← claim_at bytes
  owner ← name_at claim.1
  items ← items_at owner.1
  Some (Asked claim.0 owner.0 items.0, items.1)

unfoldable pub extended_at : List ℕ → Option (Effect × List ℕ)
extended_at bytes = do
  claim ← claim_at bytes
  items ← items_at claim.1
  Some (Extended claim.0 items.0, items.1)

unfoldable pub saved_at : List ℕ → Option (Effect × List ℕ)
saved_at bytes = do
  claim ← claim_at bytes
  place ← u32_at claim.1
  content ← content_at place.1
  Some (Saved claim.0 place.0 content.0, content.1)

unfoldable pub checked_in_at : List ℕ → Option (Effect × List ℕ)
checked_in_at bytes = do
  claim ← claim_at bytes
  Some (CheckedIn claim.0, claim.1)

unfoldable pub abandoned_at : List ℕ → Option (Effect × List ℕ)
abandoned_at bytes = do
  claim ← claim_at bytes
  Some (Abandoned claim.0, claim.1)

unfoldable pub given_at : List ℕ → Option (Effect × List ℕ)
given_at bytes = do
  claim ← claim_at bytes
  designer ← name_at claim.1
  Some (Given claim.0 designer.0, designer.1)

unfoldable pub noted_at : List ℕ → Option (Effect × List ℕ)
noted_at bytes = do
  claim ← claim_at bytes
  note ← note_at claim.1
  Some (Noted claim.0 note.0, note.1)

unfoldable pub nested_at : List ℕ → Option (Effect × List ℕ)
nested_at bytes = do
  parent ← u32_at bytes
  child ← name_at parent.1
  Some (Nested parent.0 child.0, child.1)

-- the effect of this kind
unfoldable pub effect_of_kind : ℕ → List ℕ → Option (Effect × List ℕ)
effect_of_kind kind bytes =
    if kind == 1 then made_at bytes
    else if kind == 2 then asked_at bytes
    else if kind == 3 then extended_at bytes
    else if kind == 4 then saved_at bytes
    else if kind == 5 then checked_in_at bytes
    else if kind == 6 then abandoned_at bytes
    else if kind == 7 then given_at bytes
    else if kind == 8 then noted_at bytes
    else if kind == 9 then nested_at bytes
    else None

-- the same for any kind but a saved content
unfoldable pub unsaved_at : ℕ → List ℕ → Option (Effect × List ℕ)
unsaved_at kind bytes = if kind == 4 then None else effect_of_kind kind bytes

-- the effect whose record stands at the front, and the bytes behind it; none where the front is no record
unfoldable pub effect_at : List ℕ → Option (Effect × List ℕ)
effect_at bytes = do
  kind ← u8_at bytes
  effect_of_kind kind.0 kind.1
