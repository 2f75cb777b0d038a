use Rattle.std.proofs.Common.{◌≡◌, drop}
use Rattle.vault_state.specs.Claims.{change_set}
use Rattle.check_outs.proofs.places.is_changed_by.Given as goal

-- the items that are left give the answer of all
abbrev pub invariant-loop-item : goal.invariant-loop-item
invariant-loop-item g l = change_set l.tree (drop l.item-index l.items) l.place ≡ change_set l.tree l.items l.place
