use Rattle.std.proofs.Common.{◌∷◌, length, take}
use Rattle.std.specs.List.{flat_map}
use Rattle.vault_journal.specs.Spelling.{item_bytes}
use Rattle.vault_journal.specs.Written.{IsWritten}
use Rattle.vault_journal.proofs.writing.put_items.Given as goal

abbrev pub invariant-loop-item : goal.invariant-loop-item
invariant-loop-item l = IsWritten l.at (length l.items ∷ flat_map item_bytes (take l.item-index l.items)) l.next l.fn.out l.out
