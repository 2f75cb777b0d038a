use Rattle.std.proofs.Common.{◌≡◌, ◌∙◌, IsTrue, length, sym, subst}
use Rattle.vault_device.specs.Disk.{IsTornImage, overwritten}
use Rattle.vault_device.proofs.Moments.{one_call, and_then}
use Rattle.vault_store.proofs.Creating.{untorn, weaker}
use Rattle.vault_store.proofs.Looked.{on_any, and_called, caused_behind, one_quiet}
use Rattle.vault_store.proofs.calls.write_settled.Goals as goal

pub returns-clause-calls : goal.returns-clause-calls
returns-clause-calls g c =
    record {
      called = and_called (g.D.Device.disk c.args.device.now) (g.D.Device.disk c.write_at.new.self) (g.D.Device.disk c.settle.new.device) (record { same_honesty = c.write_at.ensures.one_call.same_honesty; no_fewer_faults = c.write_at.ensures.one_call.no_fewer_faults }) c.settle.ensures.calls.called;
      cause = λ failed. caused_behind (g.D.Device.disk c.args.device.now) (g.D.Device.disk c.write_at.new.self) (g.D.Device.disk c.settle.new.device) (record { same_honesty = c.write_at.ensures.one_call.same_honesty; no_fewer_faults = c.write_at.ensures.one_call.no_fewer_faults }) (c.settle.ensures.calls.cause failed);
      quiet = one_quiet c.settle.result (g.D.Device.disk c.args.device.now) (g.D.Device.disk c.write_at.new.self) (g.D.Device.disk c.settle.new.device) c.in_ok-write_at.ensures.one_call.no_fault c.settle.ensures.calls.quiet;
    }

pub returns-in_err-write_at-clause-moments : goal.returns-in_err-write_at-clause-moments
returns-in_err-write_at-clause-moments g c = λ honest.
    one_call (g.D.Device.disk c.args.device.now) (g.D.Device.disk c.write_at.new.self) (IsTornImage (g.D.Device.disk c.args.device.now) c.args.at (length c.args.bytes.now)) (IsTornImage (g.D.Device.disk c.args.device.now) c.args.at (length c.args.bytes.now)) (g.met.D.Device.lawful c.args.device.now honest) (c.write_at.ensures.write honest).time (untorn (g.D.Device.disk c.args.device.now) c.args.at (length c.args.bytes.now)) (λ x torn. torn)

pub returns-clause-moments : goal.returns-clause-moments
returns-clause-moments g c = λ honest.
    let still = subst IsTrue (sym c.write_at.ensures.one_call.same_honesty) honest in
    and_then (g.D.Device.disk c.args.device.now) (g.D.Device.disk c.write_at.new.self) (g.D.Device.disk c.settle.new.device) (IsTornImage (g.D.Device.disk c.args.device.now) c.args.at (length c.args.bytes.now))
    (one_call (g.D.Device.disk c.args.device.now) (g.D.Device.disk c.write_at.new.self) (IsTornImage (g.D.Device.disk c.args.device.now) c.args.at (length c.args.bytes.now)) (IsTornImage (g.D.Device.disk c.args.device.now) c.args.at (length c.args.bytes.now)) (g.met.D.Device.lawful c.args.device.now honest) (c.write_at.ensures.write honest).time (untorn (g.D.Device.disk c.args.device.now) c.args.at (length c.args.bytes.now)) (λ x torn. torn))
    (weaker (g.D.Device.disk c.write_at.new.self) (g.D.Device.disk c.settle.new.device) (g.D.Device.disk c.write_at.new.self).IsImage (IsTornImage (g.D.Device.disk c.args.device.now) c.args.at (length c.args.bytes.now)) (c.write_at.ensures.write honest).images (c.settle.ensures.moments still))

pub returns-clause-shown : goal.returns-clause-shown
returns-clause-shown g c = λ honest.
    let still = subst IsTrue (sym c.write_at.ensures.one_call.same_honesty) honest in
    on_any c.settle.result ((g.D.Device.disk c.settle.new.device).shown ≡ overwritten (g.D.Device.disk c.args.device.now).shown c.args.at c.args.bytes.now) (c.settle.ensures.shown still ∙ (c.in_ok-write_at.ensures.write honest).shown)
