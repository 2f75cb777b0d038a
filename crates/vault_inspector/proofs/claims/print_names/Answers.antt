use Rattle.std.proofs.Common.{◌∷◌, sym}
use Rattle.vault_inspector.proofs.Written.{part_of_each, more_of_each, writes_part}
use Rattle.vault_inspector.proofs.claims.print_names.Goals as goal

pub returns-in_err-print_name : goal.returns-in_err-print_name
returns-in_err-print_name g c =
    writes_part _ _ _ _ c.from_residual.ensures.0 (part_of_each (λ name. 47 ∷ name) _ _ _ _ _ _ c.loop-name-test.true (sym c.name-item.is) c.loop-name.invariant c.in_err-print_name.ensures)

pub loop-name-preserved : goal.loop-name-preserved
loop-name-preserved g c = more_of_each (λ name. 47 ∷ name) _ _ _ _ _ _ c.loop-name-test.true (sym c.name-item.is) c.loop-name.invariant c.in_ok-print_name.ensures
