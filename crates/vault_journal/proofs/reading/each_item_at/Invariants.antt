use Rattle.std.proofs.Common.{◌≡◌, ◌-◌, length}
use Rattle.vault_journal.specs.Reading.{each_item_at}
use Rattle.vault_journal.proofs.ItemLoop.{with_front}
use Rattle.vault_journal.proofs.reading.each_item_at.Given as goal

abbrev pub invariant-loop : goal.invariant-loop
invariant-loop l = (length l.items ≡ l.counter) × (with_front l.items (each_item_at (l.count - l.counter) l.rest) ≡ each_item_at l.count l.bytes)
