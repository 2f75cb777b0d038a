use Rattle.std.proofs.Common.{refl}
use Rattle.vault_store.proofs.opening.read_active.Goals as goal

pub returns-in-Err-Damaged-clause-refused : goal.returns-in-Err-Damaged-clause-refused
returns-in-Err-Damaged-clause-refused g c = (refl, rw (← c.in-Err-Damaged.offset-is) at (rw c.in-Err-Damaged.field-0-is at c.in-Err-Damaged.ensures.refused))
