-- The entries of one life, with their marks. This project's own.
use Rattle.std.specs.Prelude.{ℕ, zero, suc, ◌+◌, cond, Bool, true, false, List, [], ◌∷◌, map, Option, slice_get}
use Rattle.vault_model.specs.Said.{Command, Reply}
use Rattle.group_commit.specs.declared.mark.Mark.{Mark}
use Rattle.group_commit.specs.declared.mark.Mark.TheVariants.{Open, Told, Forgotten}

-- a command of a session, its number there, and the reply
pub record Entry : Type 0 where
  pub session : ℕ
  pub number : ℕ
  pub command : Command
  pub reply : Reply

-- an entry, and what became of its ticket
pub record Kept : Type 0 where
  pub entry : Entry
  pub mark : Mark

-- an entry whose ticket is outstanding
abbrev pub opened : Entry → Kept
opened entry = record { entry = entry; mark = Open }

-- the mark of the entry at a position
abbrev pub mark_at : List Kept → ℕ → Option Mark
mark_at entries position = slice_get (map (λ (kept : Kept). kept.mark) entries) position

-- the entries with another mark at a position
abbrev pub with_mark : Mark → List Kept → ℕ → List Kept
with_mark mark [] position = []
with_mark mark (kept ∷ rest) zero = record kept { mark = mark } ∷ rest
with_mark mark (kept ∷ rest) (suc position) = kept ∷ with_mark mark rest position

-- whether the entry was acknowledged
abbrev pub is_told : Mark → Bool
is_told Open = false
is_told Told = true
is_told Forgotten = false

-- how many entries were acknowledged
abbrev pub told_in : List Kept → ℕ
told_in [] = 0
told_in (kept ∷ rest) = cond (is_told kept.mark) 1 0 + told_in rest
