-- What single words of a line say: numbers, claims and contents. Names and paths are read as the vault's own.
-- This project's own.
use Rattle.std.specs.Prelude.{ℕ, ◌^◌, ◌&&◌, ◌==◌, nat_lt, List, [], ◌∷◌, length, Option, Some, None, if◌then◌else◌, codes, decimal}
use Rattle.std.specs.Option.{option_map, option_and_then}
use Rattle.std.specs.Result.{result_ok}
use Rattle.std.specs.Str.{bytes_eq}
use Rattle.std.specs.Str.Parse.{digits_value}
use Rattle.hex.specs.Hex.{decode_of}
use Rattle.vault_state.specs.declared.ids.ClaimId.{ClaimId}
use Rattle.vault_state.specs.declared.ids.ClaimId.TheVariants.{Long, Short}

-- the number below 2^32 whose decimal text the word is, so without leading zeros
abbrev pub number_in : List ℕ → Option ℕ
number_in word =
    let n = digits_value 10 word in
    if nat_lt n (2 ^ 32) && bytes_eq (decimal n) word then Some n else None

-- a number from 1 on
abbrev pub positive_in : List ℕ → Option ℕ
positive_in word = option_and_then (λ n. if n == 0 then None else Some n) (number_in word)

-- a long claim: `c` and a number from 1 on
abbrev pub long_in : List ℕ → Option ℕ
long_in [] = None
long_in (letter ∷ digits) = if letter == 99 then positive_in digits else None

-- a short claim: `h` and a number from 1 on
abbrev pub short_in : List ℕ → Option ℕ
short_in [] = None
short_in (letter ∷ digits) = if letter == 104 then positive_in digits else None

-- a claim: `c` or `h` and a number from 1 on
abbrev pub claim_in : List ℕ → Option ClaimId
claim_in [] = None
claim_in (letter ∷ digits) =
    if letter == 99 then option_map Long (positive_in digits)
    else if letter == 104 then option_map Short (positive_in digits)
    else None

-- a content: the bytes that hexadecimal digits of either case spell, two digits a byte; `-` for no bytes
abbrev pub content_in : List ℕ → Option (List ℕ)
content_in word =
    if bytes_eq word (codes "-") then Some []
    else if length word == 0 then None
    else result_ok (decode_of word)
