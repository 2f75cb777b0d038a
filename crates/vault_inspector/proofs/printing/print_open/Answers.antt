use Rattle.vault_inspector.proofs.Written.{part_then, part_after, appends_more, writes_after, writes_part}
use Rattle.vault_inspector.proofs.printing.print_open.Goals as goal

pub returns-in_err-put_number : goal.returns-in_err-put_number
returns-in_err-put_number g c = writes_part _ _ _ _ c.from_residual.ensures.0 (part_then _ _ _ _ (part_then _ _ _ _ c.in_err-put_number.ensures))

pub returns-in_err-put_number-2 : goal.returns-in_err-put_number-2
returns-in_err-put_number-2 g c = writes_part _ _ _ _ c.from_residual-in_err-put_number-2.ensures.0 (part_then _ _ _ _ (part_after _ _ _ _ _ c.in_ok-put_number.ensures c.in_err-put_number-2.ensures))

pub returns : goal.returns
returns g c = writes_after _ _ _ _ _ _ (appends_more _ _ _ _ _ c.in_ok-put_number.ensures c.in_ok-put_number-2.ensures) c.put_number-3.ensures
