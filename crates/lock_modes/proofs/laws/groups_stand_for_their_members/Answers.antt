use Rattle.lock_modes.specs.Modes.{compatible}
use Rattle.lock_modes.proofs.Joins.{list_all-compatible}
use Rattle.lock_modes.proofs.GroupModes.{join_all-group_of, list_all-group_of}
use Rattle.lock_modes.proofs.laws.groups_stand_for_their_members.Goals as goal

pub returns-clause-mode : goal.returns-clause-mode
returns-clause-mode c = join_all-group_of

pub returns-clause-admits : goal.returns-clause-admits
returns-clause-admits c = λ ms n. list_all-group_of (λ m. compatible m n) ms

pub returns-clause-by_mode : goal.returns-clause-by_mode
returns-clause-by_mode c = list_all-compatible
