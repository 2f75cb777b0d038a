use Rattle.std.proofs.Common.{◌-◌, Result, Err, IsTrue, length, refl, sym, ◌∙◌, ap, subst}
use Rattle.vault_store.specs.declared.body.ReadError.{ReadError}
use Rattle.vault_store.proofs.Behind.{and_reads, quiet_then}
use Rattle.vault_store.proofs.Bodies.{one_read, snapshot_wrong, frames_wrong, contents_read}
use Rattle.vault_store.proofs.body.read_contents.Goals as goal

pub returns-in_err-version-clause-refused : goal.returns-in_err-version-clause-refused
returns-in_err-version-clause-refused g c =
    snapshot_wrong (g.D.Device.disk c.args.device.now) (g.D.Device.disk c.len.new.self) (g.D.Device.disk c.read_base.new.device)
    (one_read (g.D.Device.disk c.args.device.now) (g.D.Device.disk c.len.new.self) c.len.result c.len.ensures.one_call c.len.ensures.kept)
    c.from_residual-in_err-version.result c.in_err-version.field-0.0 (record { same_faults = c.in_ok-len.ensures.one_call.no_fault }) c.in_err-version.ensures.refused c.from_residual-in_err-version.ensures.1

pub returns-in-Err-clause-reads : goal.returns-in-Err-clause-reads
returns-in-Err-clause-reads g c =
    and_reads (g.D.Device.disk c.args.device.now) (g.D.Device.disk c.len.new.self) (g.D.Device.disk c.read_frames.new.device)
    (one_read (g.D.Device.disk c.args.device.now) (g.D.Device.disk c.len.new.self) c.len.result c.len.ensures.one_call c.len.ensures.kept)
    (and_reads (g.D.Device.disk c.len.new.self) (g.D.Device.disk c.read_base.new.device) (g.D.Device.disk c.read_frames.new.device) c.read_base.ensures.reads c.read_frames.ensures.reads)

pub returns-in-Err-clause-refused : goal.returns-in-Err-clause-refused
returns-in-Err-clause-refused g c =
    let failed : Result (Unit {0}) ReadError = Err c.in-Err.why in
    frames_wrong (g.D.Device.disk c.args.device.now) (g.D.Device.disk c.len.new.self) (g.D.Device.disk c.read_base.new.device)
    (one_read (g.D.Device.disk c.args.device.now) (g.D.Device.disk c.len.new.self) c.len.result c.len.ensures.one_call c.len.ensures.kept) c.read_base.ensures.reads c.in_ok-len.len c.in_ok-version.field-0.end c.in_ok-len.ensures.length c.in_ok-version.field-0.version c.in_ok-version.field-0.book c.in_ok-version.ensures.base
    (g.D.Device.disk c.read_frames.new.device) failed c.in-Err.why
    (quiet_then (g.D.Device.disk c.args.device.now) (g.D.Device.disk c.len.new.self) (g.D.Device.disk c.read_base.new.device) (record { same_faults = c.in_ok-len.ensures.one_call.no_fault }) c.in_ok-version.ensures.quiet) c.in-Err.ensures.refused refl

pub returns-in-Ok-clause-reads : goal.returns-in-Ok-clause-reads
returns-in-Ok-clause-reads g c =
    and_reads (g.D.Device.disk c.args.device.now) (g.D.Device.disk c.len.new.self) (g.D.Device.disk c.read_frames.new.device)
    (one_read (g.D.Device.disk c.args.device.now) (g.D.Device.disk c.len.new.self) c.len.result c.len.ensures.one_call c.len.ensures.kept)
    (and_reads (g.D.Device.disk c.len.new.self) (g.D.Device.disk c.read_base.new.device) (g.D.Device.disk c.read_frames.new.device) c.read_base.ensures.reads c.read_frames.ensures.reads)

pub returns-in-Ok-clause-contents : goal.returns-in-Ok-clause-contents
returns-in-Ok-clause-contents g c =
    contents_read (g.D.Device.disk c.args.device.now) (g.D.Device.disk c.len.new.self) (g.D.Device.disk c.read_base.new.device)
    (one_read (g.D.Device.disk c.args.device.now) (g.D.Device.disk c.len.new.self) c.len.result c.len.ensures.one_call c.len.ensures.kept) c.read_base.ensures.reads c.in_ok-len.len c.in_ok-version.field-0.end c.in_ok-len.ensures.length c.in_ok-version.field-0.version c.in_ok-version.field-0.book c.in_ok-version.ensures.base
    c.read_frames.new.book c.in-Ok.frames.count c.in-Ok.frames.tail (c.in-Ok.frames.tail - c.in_ok-version.field-0.end) refl c.in-Ok.ensures.all

pub read_base-requires-clause-len : goal.read_base-requires-clause-len
read_base-requires-clause-len g c = λ honest.
    let reads = one_read (g.D.Device.disk c.args.device.now) (g.D.Device.disk c.len.new.self) c.len.result c.len.ensures.one_call c.len.ensures.kept in
    let was = subst IsTrue reads.called.same_honesty honest in
    c.in_ok-len.ensures.length was ∙ ap length (sym (reads.read was).shown)

pub returns-in_err-version-clause-reads : goal.returns-in_err-version-clause-reads
returns-in_err-version-clause-reads g c =
    and_reads (g.D.Device.disk c.args.device.now) (g.D.Device.disk c.len.new.self) (g.D.Device.disk c.read_base.new.device)
    (one_read (g.D.Device.disk c.args.device.now) (g.D.Device.disk c.len.new.self) c.len.result c.len.ensures.one_call c.len.ensures.kept) c.read_base.ensures.reads

pub read_frames-requires-clause-len : goal.read_frames-requires-clause-len
read_frames-requires-clause-len g c = λ honest.
    let reads = and_reads (g.D.Device.disk c.args.device.now) (g.D.Device.disk c.len.new.self) (g.D.Device.disk c.read_base.new.device) (one_read (g.D.Device.disk c.args.device.now) (g.D.Device.disk c.len.new.self) c.len.result c.len.ensures.one_call c.len.ensures.kept) c.read_base.ensures.reads in
    let was = subst IsTrue reads.called.same_honesty honest in
    c.in_ok-len.ensures.length was ∙ ap length (sym (reads.read was).shown)

pub returns-in-Ok-clause-quiet : goal.returns-in-Ok-clause-quiet
returns-in-Ok-clause-quiet g c =
    quiet_then (g.D.Device.disk c.args.device.now) (g.D.Device.disk c.len.new.self) (g.D.Device.disk c.read_frames.new.device) (record { same_faults = c.in_ok-len.ensures.one_call.no_fault })
    (quiet_then (g.D.Device.disk c.len.new.self) (g.D.Device.disk c.read_base.new.device) (g.D.Device.disk c.read_frames.new.device) c.in_ok-version.ensures.quiet c.in-Ok.ensures.quiet)
