use Rattle.std.proofs.Common.{◌≡◌, ◌-◌, ◌<◌, ◌^◌, [], length, rules, arith}
use Rattle.vault_state.specs.Vault.{durable}
use Rattle.vault_format.specs.Snapshot.{snapshot_of}
use Rattle.vault_format.proofs.Short.{spelled_short}
use Rattle.vault_store.proofs.Sized.{unsized_length, sized}
use Rattle.vault_store.proofs.snapshot.file.spell_file.Goals as goal

pub overflow_cast-count : goal.overflow_cast-count
overflow_cast-count g c =
    let empty : c.reserve_exact.new.self.items ≡ [] = search rules in
    let size = unsized_length c.args.generation c.reserve_exact.new.self.items c.put_front.new.out.items c.spell_snapshot.new.out.items (snapshot_of (durable c.args.book.now)) empty c.in_ok-put_front.ensures c.in_ok-spell_snapshot.ensures in
    let short : length (snapshot_of (durable c.args.book.now)) < 2 ^ 32 = spelled_short (durable c.args.book.now) c.requires.spelled in
    omega (arith, size, short, c.len-count.ensures, c.spell_snapshot.new.out.ok.0)

pub returns : goal.returns
returns g c =
    let empty : c.reserve_exact.new.self.items ≡ [] = search rules in
    let size = unsized_length c.args.generation c.reserve_exact.new.self.items c.put_front.new.out.items c.spell_snapshot.new.out.items (snapshot_of (durable c.args.book.now)) empty c.in_ok-put_front.ensures c.in_ok-spell_snapshot.ensures in
    let count : c.len-count.result - 23 ≡ length (snapshot_of (durable c.args.book.now)) = omega (arith, size, c.len-count.ensures, c.spell_snapshot.new.out.ok.0) in
    sized c.args.generation c.reserve_exact.new.self.items c.put_front.new.out.items c.spell_snapshot.new.out.items (snapshot_of (durable c.args.book.now)) empty c.in_ok-put_front.ensures c.in_ok-spell_snapshot.ensures
    (c.len-count.result - 23) c.put_length.new.bytes.items c.put.new.out.items count c.put_length.ensures c.in_ok-put.ensures
