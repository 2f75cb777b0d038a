use Rattle.std.proofs.Common.{refl}
use Rattle.lock_table.proofs.TablesKept.{table_new}
use Rattle.lock_table.proofs.Queuing.{queues_none}
use Rattle.lock_table.proofs.table.Table.new.Goals as goal

pub invariant_of-result : goal.invariant_of-result
invariant_of-result g c = rw (c.new.ensures.items, c.new-2.ensures.items) (table_new, queues_none c.new-3.result.items c.new-3.ensures.items, refl)
