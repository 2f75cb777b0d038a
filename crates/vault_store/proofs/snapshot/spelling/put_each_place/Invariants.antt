use Rattle.std.proofs.Common.{◌≡◌, ◌-◌, ◌++◌, take}
use Rattle.vault_format.specs.Snapshot.{current_version, places_bytes}
use Rattle.vault_store.proofs.snapshot.spelling.put_each_place.Given as goal

abbrev pub invariant-loop-number : goal.invariant-loop-number
invariant-loop-number g l = l.out.items ≡ l.initial.out.items ++ places_bytes current_version l.book 1 (take (l.number - 1) l.book.tree)
