-- A script, line after line.
use Rattle.std.proofs.Common.{◌≡◌, ℕ, suc, ◌<◌, ◌≤◌, List, [], ◌∷◌, ◌++◌, length, Bor, refl, ap, ◌∙◌, arith}
use Rattle.std.specs.Prelude.{Option, Some, None, IfSome}
use Rattle.std.specs.Option.{option_copied}
use Rattle.std.proofs.KnownBytes.{Appends-nil}
use Rattle.std.proofs.lemmas.List.{append-nil}
use Rattle.vault_state.proofs.FirstPart.{bytes_left}
use Rattle.vault_protocol.proofs.Written.{Written}
use Rattle.vault_protocol.specs.Talk.{Talk, said, committed}
use Rattle.vault_protocol.specs.Script.{said_for, printed}

pub written_start : (a : Option (List ℕ)) (all rest : List ℕ) → all ≡ rest → Written a a all rest
written_start a all rest e = ([], Appends-nil a, e)

-- the text of the next line, and what comes behind it
pub written_line : (a b : Option (List ℕ)) (all text line : List ℕ) (talk next : Talk) (lines rest : List (List ℕ))
    → Written a b all (printed talk lines)
    → lines ≡ line ∷ rest
    → text ≡ (said_for talk line).text
    → next ≡ (said_for talk line).talk
    → Written a b all (text ++ printed next rest)
written_line a b all text line talk next lines rest w first said after = (
  w.0,
  w.1,
  w.2 ∙ ap (λ more. w.0 ++ more) (ap (printed talk) first ∙ rw (← said, ← after) refl),
)

-- the last text
pub written_end : (a b : Option (List ℕ)) (all text : List ℕ) (talk : Talk) (lines : List (List ℕ))
    → Written a b all (printed talk lines)
    → lines ≡ []
    → text ≡ (said (committed talk)).text
    → Written a b all (text ++ [])
written_end a b all text talk lines w none is = (w.0, w.1, w.2 ∙ ap (λ more. w.0 ++ more) (ap (printed talk) none ∙ rw (append-nil text, ← is) refl))

-- fewer bytes are left after a line
pub fewer_left : (rest behind : Option (Bor (List ℕ))) (bytes : Bor (List ℕ)) → rest ≡ Some bytes → IfSome behind (λ more. length more.now < length bytes.now)
    → suc (bytes_left (option_copied behind)) ≤ bytes_left (option_copied rest)
fewer_left rest None bytes is h = rw is (omega arith)
fewer_left rest (Some more) bytes is h = rw is (omega (arith, h))

-- a text after no other
pub no_front : (old text new : List ℕ) → old ≡ [] → new ≡ old ++ text → new ≡ text
no_front old text new none is = is ∙ ap (λ front. front ++ text) none
