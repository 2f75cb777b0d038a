use Rattle.std.proofs.Common.{inr}
use Rattle.vault_store.proofs.Looked.{settled_on, quiet_on}
use Rattle.vault_store.proofs.calls.settle_both.Goals as goal

pub returns-in_err-settle-clause-first : goal.returns-in_err-settle-clause-first
returns-in_err-settle-clause-first g c = record { called = c.settle.ensures.calls.called; shown = c.settle.ensures.shown; moments = c.settle.ensures.moments }

pub returns-clause-first : goal.returns-clause-first
returns-clause-first g c = record { called = c.settle.ensures.calls.called; shown = c.settle.ensures.shown; moments = c.settle.ensures.moments }

pub returns-clause-second : goal.returns-clause-second
returns-clause-second g c = record { called = c.settle-2.ensures.calls.called; shown = c.settle-2.ensures.shown; moments = c.settle-2.ensures.moments }

pub returns-clause-settled : goal.returns-clause-settled
returns-clause-settled g c =
    settled_on c.settle-2.result (g.D.Device.disk c.args.first.now) (g.D.Device.disk c.args.second.now) (g.D.Device.disk c.settle.new.device) (g.D.Device.disk c.settle-2.new.device) c.settle.ensures.calls.called.same_honesty c.settle-2.ensures.calls.called.same_honesty c.in_ok-settle.ensures.settled c.settle-2.ensures.settled

pub returns-clause-quiet : goal.returns-clause-quiet
returns-clause-quiet g c =
    quiet_on c.settle-2.result (g.D.Device.disk c.args.first.now) (g.D.Device.disk c.args.second.now) (g.D.Device.disk c.settle.new.device) (g.D.Device.disk c.settle-2.new.device) c.in_ok-settle.ensures.calls.quiet c.settle-2.ensures.calls.quiet

pub returns-clause-cause : goal.returns-clause-cause
returns-clause-cause g c = λ failed. inr (c.settle-2.ensures.calls.cause failed)
