-- What contracts see of a connection's socket. This project's own.
use Rattle.std.specs.Prelude.{ℕ, Bool, true, false, List, Option, take}
use Rattle.std.specs.Io.KnownBytes.{Appends}
use Rattle.first_line.specs.declared.line.FirstLine.{FirstLine}
use Rattle.first_line.specs.declared.line.FirstLine.TheVariants as first
use Rattle.vault_lines.specs.Texts.{outside_text}
use Rattle.vault_model.specs.declared.replies.Outside.TheVariants.{Busy}

-- a served connection: its stream, what is known of its first line, and all bytes that it gave
pub record OnWire (S : Type 0) : Type 0 where
  pub stream : S
  pub first : FirstLine
  pub heard : List ℕ

-- what is known before anything came: nothing, or that all its bytes are its own
abbrev pub first_of : Bool → FirstLine
first_of true = first.Nothing
first_of false = first.Own

-- a connection that is over: its number, and its stream
pub record OnDrain (S : Type 0) : Type 0 where
  pub number : ℕ
  pub stream : S

-- of `ERR 80` some first bytes were written, and nothing else
abbrev pub IsToldBusy : Option (List ℕ) → Option (List ℕ) → Type 0
IsToldBusy old new = (count : ℕ) × Appends old new (take count (outside_text Busy))
