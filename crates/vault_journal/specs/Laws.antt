-- One spelling: what is spelled is read, whatever follows, and what is read was spelled so.
use Rattle.std.specs.Prelude.{◌≡◌, ℕ, ◌<◌, ◌≤◌, ◌^◌, List, [], ◌∷◌, ◌++◌, Option, Some, length, slice_index}
use Rattle.vault_state.specs.Name.{IsName}
use Rattle.vault_state.specs.Note.{IsNote}
use Rattle.vault_model.specs.Said.{Effect}
use Rattle.vault_journal.specs.Spelling.{in_two, in_four, in_eight, name_bytes, item_bytes, items_bytes, content_bytes, note_bytes, record_of, longest_content, longest_record, ItemFits, AreItems, HasRecord}
use Rattle.vault_journal.specs.Reading.{u8_at, u16_at, u32_at, u64_at, name_at, item_at, items_at, content_at, note_at, effect_at}
use Rattle.vault_journal.specs.Rows.{AreRecordsOf, IsFirstFault}

-- each of them is a byte
abbrev pub AreBytes : List ℕ → Type 0
AreBytes bytes = (i : ℕ) → slice_index bytes i < 256

-- a reader and a spelling are inverse on all that has a spelling
pub record IsInverse {X : Type 0} (spell : X → List ℕ) (Has : X → Type 0) (read : List ℕ → Option (X × List ℕ)) : Type 0 where
  -- what is spelled is read, whatever follows
  pub reads : (x : X) (rest : List ℕ) → Has x → read (spell x ++ rest) ≡ Some (x, rest)
  -- what is read was spelled so, and the rest stands behind it
  pub spelled : (bytes : List ℕ) (x : X) (rest : List ℕ) → AreBytes bytes → read bytes ≡ Some (x, rest) → (bytes ≡ spell x ++ rest) × Has x

-- each field is read exactly where its spelling stands
pub record FieldsAreSpelled : Type 0 where
  pub in_one : IsInverse (λ n. n ∷ []) (λ n. n < 2 ^ 8) u8_at
  pub in_two : IsInverse in_two (λ n. n < 2 ^ 16) u16_at
  pub in_four : IsInverse in_four (λ n. n < 2 ^ 32) u32_at
  pub in_eight : IsInverse in_eight (λ n. n < 2 ^ 64) u64_at
  pub name : IsInverse name_bytes IsName name_at
  pub item : IsInverse item_bytes ItemFits item_at
  pub items : IsInverse items_bytes AreItems items_at
  pub content : IsInverse content_bytes (λ content. length content ≤ longest_content) content_at
  pub note : IsInverse note_bytes IsNote note_at

-- an effect is read exactly where its record stands
abbrev pub EffectsAreSpelled : Type 0
EffectsAreSpelled = IsInverse record_of HasRecord effect_at

-- no record has more bytes than the longest
abbrev pub RecordsAreShort : Type 0
RecordsAreShort = (effect : Effect) → HasRecord effect → length (record_of effect) ≤ longest_record

-- if the same bytes begin with the records of two effects, the effects are equal, and so is what follows
abbrev pub OneRecordAtTheFront : Type 0
OneRecordAtTheFront = (e f : Effect) (behind_e behind_f : List ℕ) → HasRecord e → HasRecord f
    → record_of e ++ behind_e ≡ record_of f ++ behind_f → (e ≡ f) × (behind_e ≡ behind_f)

-- bytes are the records of at most one list of effects
abbrev pub OneRow : Type 0
OneRow = (es fs : List Effect) (bytes : List ℕ) → AreRecordsOf es bytes → AreRecordsOf fs bytes → es ≡ fs

-- bytes that are records have no fault
abbrev pub NoFaultInARow : Type 0
NoFaultInARow = (effects : List Effect) (bytes : List ℕ) (at : ℕ) → AreRecordsOf effects bytes → IsFirstFault bytes at → ⊥

-- bytes have at most one first fault
abbrev pub OneFirstFault : Type 0
OneFirstFault = (bytes : List ℕ) (a b : ℕ) → IsFirstFault bytes a → IsFirstFault bytes b → a ≡ b
