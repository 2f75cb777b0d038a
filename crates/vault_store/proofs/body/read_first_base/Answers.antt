use Rattle.std.proofs.Common.{IsTrue, length, sym, ◌∙◌, ap, subst, arith}
use Rattle.std.proofs.lemmas.Result.{IfOk-weaker, IfErr-weaker}
use Rattle.vault_store.specs.Read.{IsBaseFault}
use Rattle.vault_store.proofs.Behind.{and_reads, why_behind}
use Rattle.vault_store.proofs.Bodies.{one_read, base_moved, short_file}
use Rattle.vault_store.proofs.Looked.{one_quiet}
use Rattle.vault_store.proofs.body.read_first_base.Goals as goal

pub returns-clause-reads : goal.returns-clause-reads
returns-clause-reads g c =
    and_reads (g.D.Device.disk c.args.device.now) (g.D.Device.disk c.len.new.self) (g.D.Device.disk c.read_base.new.device)
    (one_read (g.D.Device.disk c.args.device.now) (g.D.Device.disk c.len.new.self) c.len.result c.len.ensures.one_call c.len.ensures.kept) c.read_base.ensures.reads

pub returns-clause-base : goal.returns-clause-base
returns-clause-base g c = λ honest.
    IfOk-weaker c.read_base.result _ _
    (λ base read.
    base_moved (g.D.Device.disk c.args.device.now) (g.D.Device.disk c.len.new.self) c.in_ok-len.len base.version base.book base.end
    (one_read (g.D.Device.disk c.args.device.now) (g.D.Device.disk c.len.new.self) c.len.result c.len.ensures.one_call c.len.ensures.kept) (c.in_ok-len.ensures.length honest) read)
    c.read_base.ensures.base

pub returns-clause-refused : goal.returns-clause-refused
returns-clause-refused g c =
    let old = g.D.Device.disk c.args.device.now in
    let one = g.D.Device.disk c.len.new.self in
    let reads = one_read old one c.len.result c.len.ensures.one_call c.len.ensures.kept in
    IfErr-weaker c.read_base.result _ _
    (λ why is. why_behind old one (g.D.Device.disk c.read_base.new.device) (IsBaseFault one.shown) (IsBaseFault old.shown) reads (record { same_faults = c.in_ok-len.ensures.one_call.no_fault })
    (λ at honest fault version told. subst (λ (file : _). IsBaseFault file at) (reads.read honest).shown fault version told) why is)
    c.read_base.ensures.refused

pub returns-clause-quiet : goal.returns-clause-quiet
returns-clause-quiet g c =
    one_quiet c.read_base.result (g.D.Device.disk c.args.device.now) (g.D.Device.disk c.len.new.self) (g.D.Device.disk c.read_base.new.device) c.in_ok-len.ensures.one_call.no_fault c.read_base.ensures.quiet

pub read_base-requires-clause-len : goal.read_base-requires-clause-len
read_base-requires-clause-len g c = λ honest.
    let reads = one_read (g.D.Device.disk c.args.device.now) (g.D.Device.disk c.len.new.self) c.len.result c.len.ensures.one_call c.len.ensures.kept in
    let was = subst IsTrue reads.called.same_honesty honest in
    c.in_ok-len.ensures.length was ∙ ap length (sym (reads.read was).shown)

pub returns-then-len-lt-HEADER-clause-refused : goal.returns-then-len-lt-HEADER-clause-refused
returns-then-len-lt-HEADER-clause-refused g c = λ honest.
    let size = c.in_ok-len.ensures.length honest in
    short_file (g.D.Device.disk c.args.device.now).shown (omega (arith, size, c.if-len-lt-HEADER.true))
