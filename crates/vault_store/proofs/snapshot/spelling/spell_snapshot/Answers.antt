use Rattle.std.proofs.Common.{arith}
use Rattle.vault_store.proofs.snapshot.spelling.spell_snapshot.Goals as goal

pub overflow_cast-long_count : goal.overflow_cast-long_count
overflow_cast-long_count g c = omega (arith, c.long_count.ensures.few, c.requires.few_claims)
