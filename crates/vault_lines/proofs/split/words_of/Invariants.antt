use Rattle.std.proofs.Common.{◌≡◌, ◌==◌, ◌++◌, map}
use Rattle.std.specs.List.{slice_split}
use Rattle.std.specs.Option.{option_copied}
use Rattle.vault_state.specs.Splits.{parts_behind}
use Rattle.vault_state.proofs.FirstPart.{bytes_left}
use Rattle.vault_lines.proofs.split.words_of.Given as goal

abbrev pub invariant-loop-rest : goal.invariant-loop-rest
invariant-loop-rest g l =
    map (λ word. word.now) l.words.items ++ parts_behind 32 (option_copied l.rest) ≡ slice_split (λ b. b == 32) l.line

abbrev pub decreases-loop-rest : goal.decreases-loop-rest
decreases-loop-rest g l = bytes_left (option_copied l.rest)
