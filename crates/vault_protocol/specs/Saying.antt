-- How lines are printed one by one. This project's own.
use Rattle.std.specs.Prelude.{◌≡◌, ℕ, nat_lt, Bool, true, false, List, [], ◌∷◌, ◌++◌, map}
use Rattle.group_commit.specs.Entries.{Kept}
use Rattle.group_commit.specs.Seen.{VaultSeen}
use Rattle.vault_protocol.specs.Talk.{Line, Known, Awaited, Talk, Said, told, told_text, reply_at}

-- whether the first of these lines may be printed: its text is known, or its entry is durable
abbrev pub may_be_said : ℕ → List Line → Bool
may_be_said settled [] = false
may_be_said settled (Known text ∷ lines) = true
may_be_said settled (Awaited connection position ∷ lines) = nat_lt position settled

abbrev pub is_sayable : Talk → Bool
is_sayable talk = may_be_said talk.view.settled talk.lines

-- the first line is printed
abbrev pub said_in_front : Talk → List Line → Said
said_in_front talk [] = record { text = []; talk = talk }
said_in_front talk (Known text ∷ lines) = record { text = text; talk = record talk { lines = lines } }
said_in_front talk (Awaited connection position ∷ lines) =
    record { text = told_text connection (reply_at talk.view position); talk = record (told talk connection position) { lines = lines } }

abbrev pub said_first : Talk → Said
said_first talk = said_in_front talk talk.lines

-- the texts of the lines whose text is known
abbrev pub known_texts : List Line → List ℕ
known_texts [] = []
known_texts (Known text ∷ lines) = text ++ known_texts lines
known_texts (Awaited connection position ∷ lines) = known_texts lines

-- tickets were given up: the vault is the same, except the marks of entries
pub record AreLost {D : Type 0} (old new : VaultSeen D) : Type 0 where
  pub store : new.store ≡ old.store
  pub view : new.view ≡ record old.view { kept = new.view.kept }
  pub entries : map (λ (kept : Kept). kept.entry) new.view.kept ≡ map (λ (kept : Kept). kept.entry) old.view.kept
