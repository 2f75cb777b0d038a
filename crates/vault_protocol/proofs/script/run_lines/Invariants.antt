use Rattle.std.specs.Option.{option_copied}
use Rattle.vault_state.specs.Splits.{parts_behind}
use Rattle.vault_protocol.specs.Script.{output, printed}
use Rattle.vault_protocol.proofs.Written.{Written}
use Rattle.vault_state.proofs.FirstPart.{bytes_left}
use Rattle.vault_protocol.proofs.script.run_lines.Given as goal

abbrev pub invariant-loop-rest : goal.invariant-loop-rest
invariant-loop-rest g l =
    Written (g.W.Write.contents l.fn.writer) (g.W.Write.contents l.writer) (output l.script)
    (printed l.runner (parts_behind 10 (option_copied l.rest)))

abbrev pub decreases-loop-rest : goal.decreases-loop-rest
decreases-loop-rest g l = bytes_left (option_copied l.rest)
