use Rattle.std.proofs.Common.{◌≡◌, ◌==◌, ◌≤◌, ◌++◌, length, true}
use Rattle.vault_state.specs.Limits.{most_names}
use Rattle.std.specs.List.{slice_split, list_all}
use Rattle.std.specs.Option.{option_copied}
use Rattle.vault_state.specs.Name.{is_name}
use Rattle.vault_state.specs.Splits.{parts_behind}
use Rattle.vault_state.proofs.FirstPart.{bytes_left}
use Rattle.vault_state.proofs.path.Path.read_names.Given as goal

abbrev pub invariant-loop-rest : goal.invariant-loop-rest
invariant-loop-rest l = record {
  words : slice_split (λ b. b == 47) l.fn.text ≡ l.path ++ parts_behind 47 (option_copied l.rest);
  short : length l.path ≤ most_names;
  named : list_all is_name l.path ≡ true;
}

abbrev pub decreases-loop-rest : goal.decreases-loop-rest
decreases-loop-rest l = bytes_left (option_copied l.rest)
