use Rattle.std.proofs.Common.{◌∙◌}
use Rattle.lock_table.proofs.LockConflicts.{conflict_law}
use Rattle.vault_checkout.proofs.changes.overlaps_locks.Goals as goal

pub returns : goal.returns
returns g c items there modes =
    c.conflicts.ensures
    ∙ conflict_law c.args.tree.now items c.args.others.now c.args.locks.now c.lock_set.result c.see_whole.ensures there c.requires.others c.requires.apart
    modes (λ p. rw c.as_slice.ensures.items at (c.lock_set.ensures.modes p))
