-- How a line of a script is spelled, in the domain's terms: what reading it must give back. This project's own.
use Rattle.std.specs.Prelude.{ℕ, ◌≡◌, ◌≤◌, ◌↔◌, List, ◌++◌, codes, decimal, Some}
use Rattle.vault_protocol.specs.Limits.{last_connection}
use Rattle.vault_protocol.specs.Script.{connection_line}

-- the line is a connection's: `@`, its number, a space and what the connection says, which may be any bytes
abbrev pub ConnectionSpells : List ℕ → ℕ → List ℕ → Type 0
ConnectionSpells line connection said =
    (1 ≤ connection) × (connection ≤ last_connection) × (line ≡ codes "@" ++ (decimal connection ++ (codes " " ++ said)))

-- a line of a script is read as a connection's exactly if it is spelled as one
abbrev pub ConnectionAsSpelled : Type 0
ConnectionAsSpelled = (line : List ℕ) (connection : ℕ) (said : List ℕ)
    → (connection_line line ≡ Some (connection, said)) ↔ ConnectionSpells line connection said
