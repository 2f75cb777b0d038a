-- Notes: at most 64 bytes, whatever they are. This project's own.
use Rattle.std.specs.Prelude.{◌≡◌, ℕ, ◌-◌, ◌≤◌, Bool, nat_le, if◌then◌else◌, List, ◌++◌, length, take, replicate, Option, None, Some}
use Rattle.std.proofs.Common.{sym, length-take-le}
use Rattle.vault_state.specs.Limits.{longest_note}

-- whether bytes are few enough for a note
abbrev pub is_note : List ℕ → Bool
is_note text = nat_le (length text) longest_note

-- bytes that may be a note
abbrev pub IsNote : List ℕ → Type 0
IsNote text = length text ≤ longest_note

-- the note that bytes are, if they are one
abbrev pub note_in : List ℕ → Option (List ℕ)
note_in text = if is_note text then Some text else None

-- a text in an array of fixed length, with zeros behind it
abbrev pub padded : List ℕ → List ℕ
padded text = text ++ replicate (longest_note - length text) 0

-- the room holds this many bytes, which are few enough, and zeros behind them
pub record IsPadded (bytes : List ℕ) (len : ℕ) : Type 0 where
  pub short : len ≤ longest_note
  pub within : len ≤ length bytes
  pub room : bytes ≡ padded (take len bytes)

pub inverse_of_padded : (bytes : List ℕ) (len : ℕ) → IsPadded bytes len → (padded (take len bytes) ≡ bytes) × (length (take len bytes) ≡ len)
inverse_of_padded bytes len h = (sym h.room, length-take-le len bytes h.within)
