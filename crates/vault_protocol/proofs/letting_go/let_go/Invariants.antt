use Rattle.std.proofs.Common.{◌≡◌, length}
use Rattle.vault_protocol.specs.Talk.{all_gone}
use Rattle.vault_protocol.proofs.letting_go.let_go.Given as goal

abbrev pub invariant-loop : goal.invariant-loop
invariant-loop g l = record l.vault { view = all_gone l.vault.view } ≡ record l.fn.vault { view = all_gone l.fn.vault.view }

abbrev pub decreases-loop : goal.decreases-loop
decreases-loop g l = length l.vault.view.kept
