use Rattle.std.proofs.Common.{◌≡◌, ◌++◌, length}
use Rattle.vault_protocol.specs.Saying.{known_texts, AreLost}
use Rattle.vault_protocol.specs.Waiting.{lines_of}
use Rattle.vault_protocol.proofs.losing.lose.Given as goal

abbrev pub invariant-loop-line : goal.invariant-loop-line
invariant-loop-line g l = record {
  texts : l.out.items ++ known_texts (lines_of l.lines.items) ≡ l.fn.out.items ++ known_texts (lines_of l.fn.lines.items);
  vault : AreLost l.fn.vault l.vault;
}

abbrev pub decreases-loop-line : goal.decreases-loop-line
decreases-loop-line g l = length l.lines.items
