-- The bytes after a call that appends some to others. This project's own.
use Rattle.std.specs.Prelude.{◌≡◌, ℕ, List, ◌++◌, Result, OnOk}

-- after Ok these bytes stand behind the others
abbrev pub Adds : {E : Type 0} → List ℕ → List ℕ → List ℕ → Result (Unit {0}) E → Type 0
Adds old new bytes result = OnOk result (new ≡ old ++ bytes)
