use Rattle.std.proofs.Common.{◌+◌, ℕ, refl, sym, ◌∙◌, ap, subst, arith, length, IsTrue}
use Rattle.vault_store.specs.declared.body.ReadError.{ReadError}
use Rattle.vault_store.specs.Read.{IsWhy, IsNoFrame}
use Rattle.vault_store.proofs.Behind.{and_reads, quiet_then, why_behind, passed_on}
use Rattle.vault_store.proofs.Stepped.{no_length, frame_read, frame_unmade}
use Rattle.vault_store.proofs.journal.read_frame.Goals as goal

pub returns-in_err-length-clause-refused : goal.returns-in_err-length-clause-refused
returns-in_err-length-clause-refused g c =
    no_length (g.D.Device.disk c.args.device.now) (g.D.Device.disk c.read_gate.new.device) c.read_gate.ensures.reads c.args.at (λ honest. sym (c.in_ok-read_gate.ensures.gate honest) ∙ c.if-branch-ne1.false)
    (g.D.Device.disk c.read_length.new.device) c.args.book.now c.from_residual-in_err-length.result c.in_err-length.field-0.0 c.in_ok-read_gate.ensures.quiet c.in_err-length.ensures.refused c.from_residual-in_err-length.ensures.1

pub returns-in-Ok-clause-step : goal.returns-in-Ok-clause-step
returns-in-Ok-clause-step g c =
    frame_read (g.D.Device.disk c.args.device.now) (g.D.Device.disk c.read_gate.new.device) c.read_gate.ensures.reads c.args.at (λ honest. sym (c.in_ok-read_gate.ensures.gate honest) ∙ c.if-branch-ne1.false)
    (g.D.Device.disk c.read_length.new.device) c.read_length.ensures.reads c.args.len c.in_ok-length.length c.requires.within c.requires.len c.in_ok-length.ensures.length
    c.deref.result.now (ap length c.deref.ensures.value ∙ c.in_ok-records.ensures.size) (λ honest. c.deref.ensures.value ∙ c.in_ok-records.ensures.bytes honest)
    (c.args.at + 5 + c.from.result) c.args.book.now c.make_records.new.book c.in-Ok.ensures.made (omega (arith, c.from.ensures))

pub returns-in-Err-NotApplicable-clause-refused : goal.returns-in-Err-NotApplicable-clause-refused
returns-in-Err-NotApplicable-clause-refused g c =
    λ honest. record {
      here = refl;
      opened = sym (c.in_ok-read_gate.ensures.gate honest) ∙ c.if-branch-ne1.false;
      none =
          frame_unmade (g.D.Device.disk c.args.device.now) (g.D.Device.disk c.read_gate.new.device) c.read_gate.ensures.reads c.args.at (λ honest. sym (c.in_ok-read_gate.ensures.gate honest) ∙ c.if-branch-ne1.false)
          (g.D.Device.disk c.read_length.new.device) c.read_length.ensures.reads c.args.len c.in_ok-length.length c.requires.within c.requires.len c.in_ok-length.ensures.length
          c.deref.result.now (ap length c.deref.ensures.value ∙ c.in_ok-records.ensures.size) (λ honest. c.deref.ensures.value ∙ c.in_ok-records.ensures.bytes honest)
          c.args.book.now (rw c.in-Err-NotApplicable.field-0-is at c.in-Err-NotApplicable.ensures.refused) honest;
    }

pub read_length-requires-clause-len : goal.read_length-requires-clause-len
read_length-requires-clause-len g c = λ honest.
    let was = subst IsTrue c.read_gate.ensures.reads.called.same_honesty honest in
    c.requires.len was ∙ ap length (sym (c.read_gate.ensures.reads.read was).shown)

pub read_bytes-requires : goal.read_bytes-requires
read_bytes-requires g c = λ honest.
    let reads = and_reads (g.D.Device.disk c.args.device.now) (g.D.Device.disk c.read_gate.new.device) (g.D.Device.disk c.read_length.new.device) c.read_gate.ensures.reads c.read_length.ensures.reads in
    let was = subst IsTrue reads.called.same_honesty honest in
    omega (arith, c.requires.len was, ap length (reads.read was).shown, c.in_ok-length.ensures.length.within)

pub returns-in_err-length-clause-reads : goal.returns-in_err-length-clause-reads
returns-in_err-length-clause-reads g c =
    and_reads (g.D.Device.disk c.args.device.now) (g.D.Device.disk c.read_gate.new.device) (g.D.Device.disk c.read_length.new.device) c.read_gate.ensures.reads c.read_length.ensures.reads

pub returns-in_err-records-clause-reads : goal.returns-in_err-records-clause-reads
returns-in_err-records-clause-reads g c =
    and_reads (g.D.Device.disk c.args.device.now) (g.D.Device.disk c.read_length.new.device) (g.D.Device.disk c.read_bytes.new.device) (and_reads (g.D.Device.disk c.args.device.now) (g.D.Device.disk c.read_gate.new.device) (g.D.Device.disk c.read_length.new.device) c.read_gate.ensures.reads c.read_length.ensures.reads) c.read_bytes.ensures.reads

pub returns-in-Ok-clause-reads : goal.returns-in-Ok-clause-reads
returns-in-Ok-clause-reads g c =
    and_reads (g.D.Device.disk c.args.device.now) (g.D.Device.disk c.read_length.new.device) (g.D.Device.disk c.read_bytes.new.device) (and_reads (g.D.Device.disk c.args.device.now) (g.D.Device.disk c.read_gate.new.device) (g.D.Device.disk c.read_length.new.device) c.read_gate.ensures.reads c.read_length.ensures.reads) c.read_bytes.ensures.reads

pub returns-in-Err-NotApplicable-clause-reads : goal.returns-in-Err-NotApplicable-clause-reads
returns-in-Err-NotApplicable-clause-reads g c =
    and_reads (g.D.Device.disk c.args.device.now) (g.D.Device.disk c.read_length.new.device) (g.D.Device.disk c.read_bytes.new.device) (and_reads (g.D.Device.disk c.args.device.now) (g.D.Device.disk c.read_gate.new.device) (g.D.Device.disk c.read_length.new.device) c.read_gate.ensures.reads c.read_length.ensures.reads) c.read_bytes.ensures.reads

pub returns-clause-reads : goal.returns-clause-reads
returns-clause-reads g c =
    and_reads (g.D.Device.disk c.args.device.now) (g.D.Device.disk c.read_length.new.device) (g.D.Device.disk c.read_bytes.new.device) (and_reads (g.D.Device.disk c.args.device.now) (g.D.Device.disk c.read_gate.new.device) (g.D.Device.disk c.read_length.new.device) c.read_gate.ensures.reads c.read_length.ensures.reads) c.read_bytes.ensures.reads

pub returns-in_err-records-clause-refused : goal.returns-in_err-records-clause-refused
returns-in_err-records-clause-refused g c =
    passed_on c.from_residual-in_err-records.result c.in_err-records.field-0.0 (λ (e : ReadError). IsWhy (g.D.Device.disk c.args.device.now) (g.D.Device.disk c.read_bytes.new.device) (IsNoFrame c.args.book.now (g.D.Device.disk c.args.device.now).shown c.args.at) e) c.from_residual-in_err-records.ensures.1
    (why_behind (g.D.Device.disk c.args.device.now) (g.D.Device.disk c.read_length.new.device) (g.D.Device.disk c.read_bytes.new.device) (λ (offset : ℕ). ⊥) (IsNoFrame c.args.book.now (g.D.Device.disk c.args.device.now).shown c.args.at)
    (and_reads (g.D.Device.disk c.args.device.now) (g.D.Device.disk c.read_gate.new.device) (g.D.Device.disk c.read_length.new.device) c.read_gate.ensures.reads c.read_length.ensures.reads) (quiet_then (g.D.Device.disk c.args.device.now) (g.D.Device.disk c.read_gate.new.device) (g.D.Device.disk c.read_length.new.device) c.in_ok-read_gate.ensures.quiet c.in_ok-length.ensures.quiet) (λ offset honest wrong. absurd wrong) c.in_err-records.field-0.0 c.in_err-records.ensures.refused)

pub returns-clause-refused : goal.returns-clause-refused
returns-clause-refused g c =
    quiet_then (g.D.Device.disk c.args.device.now) (g.D.Device.disk c.read_length.new.device) (g.D.Device.disk c.read_bytes.new.device)
    (quiet_then (g.D.Device.disk c.args.device.now) (g.D.Device.disk c.read_gate.new.device) (g.D.Device.disk c.read_length.new.device) c.in_ok-read_gate.ensures.quiet c.in_ok-length.ensures.quiet) c.in_ok-records.ensures.quiet

pub returns-in-Ok-clause-quiet : goal.returns-in-Ok-clause-quiet
returns-in-Ok-clause-quiet g c =
    quiet_then (g.D.Device.disk c.args.device.now) (g.D.Device.disk c.read_length.new.device) (g.D.Device.disk c.read_bytes.new.device)
    (quiet_then (g.D.Device.disk c.args.device.now) (g.D.Device.disk c.read_gate.new.device) (g.D.Device.disk c.read_length.new.device) c.in_ok-read_gate.ensures.quiet c.in_ok-length.ensures.quiet) c.in_ok-records.ensures.quiet
