use Rattle.std.proofs.Common.{◌≡◌}
use Rattle.group_commit.specs.View.{View, length_of}
use Rattle.vault_desk.specs.Acts.{GoesOn}
use Rattle.vault_desk.proofs.last_flush.flush.Given as goal

-- the vault went on by acts alone, and no entry was added or acknowledged
abbrev pub invariant-loop : goal.invariant-loop
invariant-loop g l =
    (length_of l.vault.view ≡ length_of l.initial.vault.view) × (l.vault.view.told ≡ l.initial.vault.view.told)
    × ((first : View) → GoesOn first l.initial.vault.view → GoesOn first l.vault.view)
