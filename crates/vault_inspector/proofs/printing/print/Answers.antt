use Rattle.vault_inspector.proofs.Written.{appends_more, writes_after, whole_of, part_of}
use Rattle.vault_inspector.proofs.printing.print.Goals as goal

pub returns-clause-ok : goal.returns-clause-ok
returns-clause-ok g c = whole_of _ _ _ _ (writes_after _ _ _ _ _ _ (appends_more _ _ _ _ _ c.in_ok-print_file.ensures c.in_ok-print_file-2.ensures) c.print_found.ensures)

pub returns-clause-err : goal.returns-clause-err
returns-clause-err g c = part_of _ _ _ _ (writes_after _ _ _ _ _ _ (appends_more _ _ _ _ _ c.in_ok-print_file.ensures c.in_ok-print_file-2.ensures) c.print_found.ensures)
