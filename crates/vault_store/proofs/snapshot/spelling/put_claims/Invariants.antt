use Rattle.std.proofs.Common.{◌≡◌, ◌++◌, take}
use Rattle.std.specs.List.{flat_map}
use Rattle.vault_state.specs.Claims.{without_short}
use Rattle.vault_format.specs.Snapshot.{current_version, claim_bytes}
use Rattle.vault_store.proofs.snapshot.spelling.put_claims.Given as goal

abbrev pub invariant-loop-position : goal.invariant-loop-position
invariant-loop-position g l = l.out.items ≡ l.initial.out.items ++ flat_map (claim_bytes current_version l.book) (without_short (take l.position l.book.line))
