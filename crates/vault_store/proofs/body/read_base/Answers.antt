use Rattle.std.proofs.Common.{◌≡◌, ℕ, ◌+◌, length, take, Some, None, refl, ◌∙◌, ap, arith, sym}
use Rattle.std.specs.Prelude.{slice_range}
use Rattle.vault_format.specs.Snapshot.{spelling_of}
use Rattle.vault_store.proofs.Behind.{and_reads}
use Rattle.vault_store.proofs.Bodies.{one_read, base_bytes, version_there, length_there, too_short, too_long, none_spelled}
use Rattle.vault_store.proofs.InPieces.{snapshot_moved}
use Rattle.vault_store.proofs.body.read_base.Goals as goal

pub returns-in-Some-2-clause-reads : goal.returns-in-Some-2-clause-reads
returns-in-Some-2-clause-reads g c =
    and_reads (g.D.Device.disk c.args.device.now) (g.D.Device.disk c.read_at.new.self) (g.D.Device.disk c.read_book.new.device)
    (one_read (g.D.Device.disk c.args.device.now) (g.D.Device.disk c.read_at.new.self) c.read_at.result c.read_at.ensures.one_call c.read_at.ensures.kept) c.read_book.ensures.reads

pub returns-in-Some-2-clause-base : goal.returns-in-Some-2-clause-base
returns-in-Some-2-clause-base g c =
    let old = g.D.Device.disk c.args.device.now in
    let one = g.D.Device.disk c.read_at.new.self in
    let n = c.number_in-length.result in
    let reads = one_read old one c.read_at.result c.read_at.ensures.one_call c.read_at.ensures.kept in
    let read = snapshot_moved old one c.in-Some.version (24 + n) (Some c.in-Some-2.book) reads (rw c.in-Some-2.is at c.in_ok-book.ensures.book) in
    let same : c.from-in-Some-2.result ≡ n = omega (arith, c.from-in-Some-2.ensures) in
    let size : length (spelling_of c.in-Some.version c.in-Some-2.book) ≡ n = omega (arith, read.size) in
    record {
      told = λ honest. sym (version_there old.shown c.read_at.new.buffer (c.in_ok-read_at.ensures.bytes honest)) ∙ c.in-Some.ensures;
      spelled = read.spelled;
      size = omega (arith, same, size);
      within = omega (arith, same, c.if-len-from.false, c.from.ensures);
      bytes = λ honest.
          let last = length_there old.shown c.read_at.new.buffer (c.in_ok-read_at.ensures.bytes honest) (omega arith) in
          ap (λ (k : ℕ). take (24 + k) old.shown) same
          ∙ base_bytes old.shown _ (spelling_of c.in-Some.version c.in-Some-2.book) n last c.number_in-length.ensures (sym (read.bytes honest)) c.in-Some.version c.in-Some-2.book refl size;
    }

pub returns-then-len-from-clause-refused : goal.returns-then-len-from-clause-refused
returns-then-len-from-clause-refused g c = λ honest.
    let last = length_there (g.D.Device.disk c.args.device.now).shown c.read_at.new.buffer (c.in_ok-read_at.ensures.bytes honest) (omega arith) in
    let size = c.requires.len honest in
    too_short (g.D.Device.disk c.args.device.now).shown _ c.number_in-length.result last c.number_in-length.ensures (omega arith) (omega (arith, size, c.if-len-from.true, c.from.ensures))

pub returns-in-None-clause-refused : goal.returns-in-None-clause-refused
returns-in-None-clause-refused g c = λ honest.
    let old = g.D.Device.disk c.args.device.now in
    let one = g.D.Device.disk c.read_at.new.self in
    let n = c.number_in-length.result in
    let reads = one_read old one c.read_at.result c.read_at.ensures.one_call c.read_at.ensures.kept in
    let none = snapshot_moved old one c.in-Some.version (24 + n) None reads (rw c.in-None.is at c.in_ok-book.ensures.book) in
    let last = length_there old.shown c.read_at.new.buffer (c.in_ok-read_at.ensures.bytes honest) (omega arith) in
    let size = c.requires.len honest in
    none_spelled old.shown _ n last c.number_in-length.ensures (omega arith) c.in-Some.version (slice_range old.shown 24 (24 + n)) refl
    (omega (arith, size, c.if-len-from.false, c.from.ensures))
    (sym (version_there old.shown c.read_at.new.buffer (c.in_ok-read_at.ensures.bytes honest)) ∙ c.in-Some.ensures)
    (none honest)

pub returns-then-length-gt-MAX_SNAPSHOT-clause-refused : goal.returns-then-length-gt-MAX_SNAPSHOT-clause-refused
returns-then-length-gt-MAX_SNAPSHOT-clause-refused g c = λ honest.
    let last = length_there (g.D.Device.disk c.args.device.now).shown c.read_at.new.buffer (c.in_ok-read_at.ensures.bytes honest) (omega arith) in
    let size = c.requires.len honest in
    too_long (g.D.Device.disk c.args.device.now).shown _ c.number_in-length.result last c.number_in-length.ensures (omega arith) (omega (arith, size, c.if-len-from.false, c.from.ensures)) (omega (arith, c.if-length-gt-MAX_SNAPSHOT.true))
