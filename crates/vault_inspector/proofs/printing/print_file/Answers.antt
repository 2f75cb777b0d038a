use Rattle.vault_inspector.specs.Texts.{file_line}
use Rattle.vault_inspector.proofs.Written.{appends_more, writes_after}
use Rattle.vault_inspector.proofs.printing.print_file.Goals as goal

pub returns : goal.returns
unfolding file_line
returns g c = writes_after _ _ _ _ _ _ (appends_more _ _ _ _ _ c.in_ok-put.ensures c.in_ok-print_state.ensures) c.put-2.ensures
