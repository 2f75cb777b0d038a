use Rattle.std.proofs.Common.{◌≡◌, ◌≤◌, length, take}
use Rattle.vault_state.specs.Claims.{without_short}
use Rattle.vault_store.proofs.snapshot.spelling.long_count.Given as goal

abbrev pub invariant-loop-position : goal.invariant-loop-position
invariant-loop-position g l = record {
  counted : l.count ≡ length (without_short (take l.position l.book.line));
  few : l.count ≤ l.position;
}
