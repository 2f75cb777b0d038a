use Rattle.std.proofs.Common.{length, arith}
use Rattle.vault_format.specs.Snapshot.{current_version}
use Rattle.vault_store.proofs.Behind.{and_reads, length_kept, quiet_then, why_behind}
use Rattle.vault_store.proofs.InPieces.{front_moved, front_back}
use Rattle.vault_store.proofs.NotInPieces.{from_front, fewer_moved, no_library}
use Rattle.vault_store.proofs.snapshot.pieces.read_front.Goals as goal

pub loop-device-preserved : goal.loop-device-preserved
loop-device-preserved g c =
    let on = c.in-Ok-true.ensures.on c.in-Ok-true.field-0-test in
    let new = c.read_on.new.front in
    record {
      reads = and_reads (g.D.Device.disk c.args.device.now) (g.D.Device.disk c.loop-device.device) (g.D.Device.disk c.read_on.new.device) c.loop-device.invariant.reads c.read_on.ensures.reads;
      quiet = quiet_then (g.D.Device.disk c.args.device.now) (g.D.Device.disk c.loop-device.device) (g.D.Device.disk c.read_on.new.device) c.loop-device.invariant.quiet c.in-Ok-true.ensures.quiet;
      front =
          front_back (g.D.Device.disk c.args.device.now) (g.D.Device.disk c.loop-device.device) current_version c.args.from new.tree new.shelf new.at c.loop-device.invariant.reads
          (on.front c.args.from (front_moved (g.D.Device.disk c.args.device.now) (g.D.Device.disk c.loop-device.device) current_version c.args.from c.loop-device.front.tree c.loop-device.front.shelf c.loop-device.front.at c.loop-device.invariant.reads c.loop-device.invariant.front));
      within = on.within;
      few = λ some. c.in-Ok-true.ensures.few c.in-Ok-true.field-0-test (c.loop-device.invariant.few some);
    }

pub returns-in-Ok-false-clause-none : goal.returns-in-Ok-false-clause-none
returns-in-Ok-false-clause-none g c = λ same.
    let old = g.D.Device.disk c.args.device.now in
    let mid = g.D.Device.disk c.loop-device.device in
    let front = c.loop-device.front in
    from_front old c.args.extent.count c.args.extent.end c.args.from front.at front.tree front.shelf c.loop-device.invariant.front c.loop-device.invariant.within
    (fewer_moved old mid c.args.extent.count c.args.extent.end front.at front.tree front.shelf c.loop-device.invariant.reads (c.in-Ok-false.ensures.off c.in-Ok-false.field-0-test (omega (arith, c.loop-device-test.true))))

pub returns-then-len-extent-clause-none : goal.returns-then-len-extent-clause-none
returns-then-len-extent-clause-none g c = λ same.
    no_library (g.D.Device.disk c.args.device.now) c.args.extent.count c.args.extent.end c.args.from (length c.loop-device.front.tree) c.loop-device.invariant.few (omega (arith, c.loop-device-test.false)) (λ is. c.if-len-extent.true (omega (arith, is, c.len-2.ensures)))

pub read_on-requires-clause-are : goal.read_on-requires-clause-are
read_on-requires-clause-are g c = c.loop-device.invariant.front.are

pub read_on-requires-clause-len : goal.read_on-requires-clause-len
read_on-requires-clause-len g c = length_kept (g.D.Device.disk c.args.device.now) (g.D.Device.disk c.loop-device.device) c.args.extent.end c.loop-device.invariant.reads c.requires.len

pub loop-device-smaller : goal.loop-device-smaller
loop-device-smaller g c = let on = c.in-Ok-true.ensures.on c.in-Ok-true.field-0-test in omega (arith, on.after, on.within)

pub returns-in-Ok-false-clause-reads : goal.returns-in-Ok-false-clause-reads
returns-in-Ok-false-clause-reads g c = and_reads (g.D.Device.disk c.args.device.now) (g.D.Device.disk c.loop-device.device) (g.D.Device.disk c.read_on.new.device) c.loop-device.invariant.reads c.read_on.ensures.reads

pub returns-in-Ok-false-clause-quiet : goal.returns-in-Ok-false-clause-quiet
returns-in-Ok-false-clause-quiet g c = quiet_then (g.D.Device.disk c.args.device.now) (g.D.Device.disk c.loop-device.device) (g.D.Device.disk c.read_on.new.device) c.loop-device.invariant.quiet c.in-Ok-false.ensures.quiet

pub returns-in-Err-clause-reads : goal.returns-in-Err-clause-reads
returns-in-Err-clause-reads g c = and_reads (g.D.Device.disk c.args.device.now) (g.D.Device.disk c.loop-device.device) (g.D.Device.disk c.read_on.new.device) c.loop-device.invariant.reads c.read_on.ensures.reads

pub returns-in-Err-clause-refused : goal.returns-in-Err-clause-refused
returns-in-Err-clause-refused g c = why_behind (g.D.Device.disk c.args.device.now) (g.D.Device.disk c.loop-device.device) (g.D.Device.disk c.read_on.new.device) (λ offset. ⊥) (λ offset. ⊥) c.loop-device.invariant.reads c.loop-device.invariant.quiet (λ at honest none. none) c.in-Err.why c.in-Err.ensures.refused
