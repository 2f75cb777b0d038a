use Rattle.std.proofs.Common.{◌+◌, refl}
use Rattle.vault_store.proofs.Behind.{and_reads, quiet_then}
use Rattle.vault_store.proofs.Steps.{length_behind, one_step, steps_start, wrong_step}
use Rattle.vault_store.proofs.journal.read_frames.Goals as goal

pub loop-next-preserved : goal.loop-next-preserved
loop-next-preserved g c =
    one_step (g.D.Device.disk c.args.device.now) (g.D.Device.disk c.loop-next.device) c.args.len c.args.from c.args.book.now c.loop-next.book c.loop-next.count c.loop-next.tail c.loop-next.invariant (g.D.Device.disk c.read_frame.new.device) c.in-Some.next (c.loop-next.count + 1) c.read_frame.new.book refl c.read_frame.ensures.reads c.in_ok-next.ensures.quiet
    (rw c.in-Some.is at c.in_ok-next.ensures.step)

pub loop-next-init : goal.loop-next-init
loop-next-init g c = steps_start (g.D.Device.disk c.args.device.now) c.args.len c.args.from c.args.book.now c.requires.within

pub read_frame-requires-clause-len : goal.read_frame-requires-clause-len
read_frame-requires-clause-len g c =
    length_behind (g.D.Device.disk c.args.device.now) (g.D.Device.disk c.loop-next.device) c.args.len c.args.from c.args.book.now c.loop-next.book c.loop-next.count c.loop-next.tail c.loop-next.invariant c.requires.len

pub returns-in_err-next-clause-reads : goal.returns-in_err-next-clause-reads
returns-in_err-next-clause-reads g c =
    and_reads (g.D.Device.disk c.args.device.now) (g.D.Device.disk c.loop-next.device) (g.D.Device.disk c.read_frame.new.device) c.loop-next.invariant.reads c.read_frame.ensures.reads

pub returns-in_err-next-clause-refused : goal.returns-in_err-next-clause-refused
returns-in_err-next-clause-refused g c =
    wrong_step (g.D.Device.disk c.args.device.now) (g.D.Device.disk c.loop-next.device) c.args.len c.args.from c.args.book.now c.loop-next.book c.loop-next.count c.loop-next.tail c.loop-next.invariant
    (g.D.Device.disk c.read_frame.new.device) c.from_residual.result c.in_err-next.field-0.0 c.requires.len c.in_err-next.ensures.refused c.from_residual.ensures.1

pub returns-clause-reads : goal.returns-clause-reads
returns-clause-reads g c =
    and_reads (g.D.Device.disk c.args.device.now) (g.D.Device.disk c.loop-next.device) (g.D.Device.disk c.read_frame.new.device) c.loop-next.invariant.reads c.read_frame.ensures.reads

pub returns-clause-quiet : goal.returns-clause-quiet
returns-clause-quiet g c =
    quiet_then (g.D.Device.disk c.args.device.now) (g.D.Device.disk c.loop-next.device) (g.D.Device.disk c.read_frame.new.device) c.loop-next.invariant.quiet c.in_ok-next.ensures.quiet
