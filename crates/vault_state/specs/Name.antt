-- Names: 1 to 32 bytes of a-z, 0-9, _ and -. This project's own.
use Rattle.std.specs.Prelude.{◌≡◌, ℕ, ◌-◌, ◌≤◌, Bool, ◌||◌, ◌&&◌, ◌==◌, nat_le, if◌then◌else◌, List, ◌++◌, length, take, replicate, IsTrue, Option, None, Some}
use Rattle.std.specs.List.{list_all}
use Rattle.std.proofs.Common.{sym, length-take-le}
use Rattle.vault_state.specs.Limits.{longest_name}

-- a byte that may stand in a name
abbrev pub is_name_byte : ℕ → Bool
is_name_byte b = (nat_le 97 b && nat_le b 122) || ((nat_le 48 b && nat_le b 57) || (b == 95 || b == 45))

-- whether bytes are a name
abbrev pub is_name : List ℕ → Bool
is_name text = nat_le 1 (length text) && (nat_le (length text) longest_name && list_all is_name_byte text)

-- bytes that are a name
abbrev pub IsName : List ℕ → Type 0
IsName text = IsTrue (is_name text)

-- the name that a word is, if it is one
abbrev pub name_in : List ℕ → Option (List ℕ)
name_in word = if is_name word then Some word else None

-- a text in an array of fixed length, with zeros behind it
abbrev pub padded : List ℕ → List ℕ
padded text = text ++ replicate (longest_name - length text) 0

-- the room holds this many bytes, and zeros behind them
pub record IsPadded (bytes : List ℕ) (len : ℕ) : Type 0 where
  pub within : len ≤ length bytes
  pub room : bytes ≡ padded (take len bytes)

pub inverse_of_padded : (bytes : List ℕ) (len : ℕ) → IsPadded bytes len
    → (padded (take len bytes) ≡ bytes) × (length (take len bytes) ≡ len)
inverse_of_padded bytes len h = (sym h.room, length-take-le len bytes h.within)
