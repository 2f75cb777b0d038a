use Rattle.vault_checkout.proofs.changes.overlaps.Goals as goal

pub returns : goal.returns
returns g c = c.overlaps_locks.ensures c.args.items.now c.requires.items (λ p. rw c.as_slice.ensures.items at (c.lock_set.ensures.modes p))
