use Rattle.std.proofs.Common.{◌≡◌, inl, inr, refl, sym, subst, IsTrue}
use Rattle.vault_store.specs.declared.creation.CreateError.{CreateError}
use Rattle.vault_store.specs.declared.creation.CreateError.TheVariants.{Device as DeviceFailed, NoMemory as Wanted}
use Rattle.vault_store.specs.Calls.{AreQuiet}
use Rattle.vault_store.specs.Create.{IsNotMade, AreSettledUnmade}
use Rattle.vault_store.proofs.Creating.{left_empty, then_made}
use Rattle.vault_store.proofs.Looked.{told_as, both_settled, and_called, caused_behind}
use Rattle.vault_store.proofs.creation.make.Goals as goal

pub returns-in_err-none-clause-refused : goal.returns-in_err-none-clause-refused
returns-in_err-none-clause-refused g c =
    told_as c.from_residual.result DeviceFailed (λ (e : CreateError). IsNotMade (g.D.Device.disk c.args.first.now) (g.D.Device.disk c.args.second.now) (g.D.Device.disk c.is_settled_empty.new.device) (g.D.Device.disk c.args.second.now) e) c.from_residual.ensures.1
    (inl (c.in_err-none.ensures.calls.cause refl))

pub returns-in_err-none-clause-settled : goal.returns-in_err-none-clause-settled
returns-in_err-none-clause-settled g c =
    told_as c.from_residual.result DeviceFailed (λ (e : CreateError). AreSettledUnmade (g.D.Device.disk c.is_settled_empty.new.device) (g.D.Device.disk c.args.second.now) e) c.from_residual.ensures.1
    tt

pub returns-in_err-none-clause-memory : goal.returns-in_err-none-clause-memory
returns-in_err-none-clause-memory g c =
    told_as c.from_residual.result DeviceFailed (λ (e : CreateError). e ≡ Wanted → AreQuiet (g.D.Device.disk c.args.first.now) (g.D.Device.disk c.args.second.now) (g.D.Device.disk c.is_settled_empty.new.device) (g.D.Device.disk c.args.second.now)) c.from_residual.ensures.1
    (λ same. cc)

pub returns-in_err-none_behind-clause-refused : goal.returns-in_err-none_behind-clause-refused
returns-in_err-none_behind-clause-refused g c =
    told_as c.from_residual-in_err-none_behind.result DeviceFailed (λ (e : CreateError). IsNotMade (g.D.Device.disk c.args.first.now) (g.D.Device.disk c.args.second.now) (g.D.Device.disk c.is_settled_empty.new.device) (g.D.Device.disk c.is_settled_empty-2.new.device) e) c.from_residual-in_err-none_behind.ensures.1
    (inr (c.in_err-none_behind.ensures.calls.cause refl))

pub returns-in_err-none_behind-clause-settled : goal.returns-in_err-none_behind-clause-settled
returns-in_err-none_behind-clause-settled g c =
    told_as c.from_residual-in_err-none_behind.result DeviceFailed (λ (e : CreateError). AreSettledUnmade (g.D.Device.disk c.is_settled_empty.new.device) (g.D.Device.disk c.is_settled_empty-2.new.device) e) c.from_residual-in_err-none_behind.ensures.1
    tt

pub returns-in_err-none_behind-clause-memory : goal.returns-in_err-none_behind-clause-memory
returns-in_err-none_behind-clause-memory g c =
    told_as c.from_residual-in_err-none_behind.result DeviceFailed (λ (e : CreateError). e ≡ Wanted → AreQuiet (g.D.Device.disk c.args.first.now) (g.D.Device.disk c.args.second.now) (g.D.Device.disk c.is_settled_empty.new.device) (g.D.Device.disk c.is_settled_empty-2.new.device)) c.from_residual-in_err-none_behind.ensures.1
    (λ same. cc)

pub returns-in_err-frame-clause-settled : goal.returns-in_err-frame-clause-settled
returns-in_err-frame-clause-settled g c =
    told_as c.from_residual-in_err-frame.result Wanted (λ (e : CreateError). AreSettledUnmade (g.D.Device.disk c.is_settled_empty.new.device) (g.D.Device.disk c.is_settled_empty-2.new.device) e) c.from_residual-in_err-frame.ensures.1
    (both_settled (g.D.Device.disk c.args.first.now) (g.D.Device.disk c.args.second.now) (g.D.Device.disk c.is_settled_empty.new.device) (g.D.Device.disk c.is_settled_empty-2.new.device) c.is_settled_empty.ensures.calls.called.same_honesty c.is_settled_empty-2.ensures.calls.called.same_honesty c.in_ok-none.ensures.settled c.in_ok-none_behind.ensures.settled)

pub returns-in_err-frame-clause-memory : goal.returns-in_err-frame-clause-memory
returns-in_err-frame-clause-memory g c =
    told_as c.from_residual-in_err-frame.result Wanted (λ (e : CreateError). e ≡ Wanted → AreQuiet (g.D.Device.disk c.args.first.now) (g.D.Device.disk c.args.second.now) (g.D.Device.disk c.is_settled_empty.new.device) (g.D.Device.disk c.is_settled_empty-2.new.device)) c.from_residual-in_err-frame.ensures.1
    (λ same. (c.in_ok-none.ensures.calls.quiet, c.in_ok-none_behind.ensures.calls.quiet))

pub returns-in_err-write_new-clause-first : goal.returns-in_err-write_new-clause-first
returns-in_err-write_new-clause-first g c =
    and_called (g.D.Device.disk c.args.first.now) (g.D.Device.disk c.is_settled_empty.new.device) (g.D.Device.disk c.write_new.new.device) c.is_settled_empty.ensures.calls.called c.write_new.ensures.calls.called

pub returns-in_err-write_new-clause-refused : goal.returns-in_err-write_new-clause-refused
returns-in_err-write_new-clause-refused g c =
    told_as c.from_residual-in_err-write_new.result DeviceFailed (λ (e : CreateError). IsNotMade (g.D.Device.disk c.args.first.now) (g.D.Device.disk c.args.second.now) (g.D.Device.disk c.write_new.new.device) (g.D.Device.disk c.is_settled_empty-2.new.device) e) c.from_residual-in_err-write_new.ensures.1
    (inl (caused_behind (g.D.Device.disk c.args.first.now) (g.D.Device.disk c.is_settled_empty.new.device) (g.D.Device.disk c.write_new.new.device) c.is_settled_empty.ensures.calls.called (c.in_err-write_new.ensures.calls.cause refl)))

pub returns-in_err-write_new-clause-settled : goal.returns-in_err-write_new-clause-settled
returns-in_err-write_new-clause-settled g c =
    told_as c.from_residual-in_err-write_new.result DeviceFailed (λ (e : CreateError). AreSettledUnmade (g.D.Device.disk c.write_new.new.device) (g.D.Device.disk c.is_settled_empty-2.new.device) e) c.from_residual-in_err-write_new.ensures.1
    tt

pub returns-in_err-write_new-clause-memory : goal.returns-in_err-write_new-clause-memory
returns-in_err-write_new-clause-memory g c =
    told_as c.from_residual-in_err-write_new.result DeviceFailed (λ (e : CreateError). e ≡ Wanted → AreQuiet (g.D.Device.disk c.args.first.now) (g.D.Device.disk c.args.second.now) (g.D.Device.disk c.write_new.new.device) (g.D.Device.disk c.is_settled_empty-2.new.device)) c.from_residual-in_err-write_new.ensures.1
    (λ same. cc)

pub returns-in_err-none-clause-made : goal.returns-in_err-none-clause-made
returns-in_err-none-clause-made g c =
    λ honest only. left_empty (g.D.Device.disk c.args.first.now) (g.D.Device.disk c.is_settled_empty.new.device) only (c.is_settled_empty.ensures.moments honest)

pub returns-in_err-none_behind-clause-made : goal.returns-in_err-none_behind-clause-made
returns-in_err-none_behind-clause-made g c =
    λ honest only. left_empty (g.D.Device.disk c.args.first.now) (g.D.Device.disk c.is_settled_empty.new.device) only (c.is_settled_empty.ensures.moments honest)

pub returns-then-not-none-clause-made : goal.returns-then-not-none-clause-made
returns-then-not-none-clause-made g c =
    λ honest only. left_empty (g.D.Device.disk c.args.first.now) (g.D.Device.disk c.is_settled_empty.new.device) only (c.is_settled_empty.ensures.moments honest)

pub returns-in_err-frame-clause-made : goal.returns-in_err-frame-clause-made
returns-in_err-frame-clause-made g c =
    λ honest only. left_empty (g.D.Device.disk c.args.first.now) (g.D.Device.disk c.is_settled_empty.new.device) only (c.is_settled_empty.ensures.moments honest)

pub returns-in_err-write_new-clause-made : goal.returns-in_err-write_new-clause-made
returns-in_err-write_new-clause-made g c =
    λ honest only.
    let still : IsTrue (g.D.Device.disk c.is_settled_empty.new.device).honest = subst IsTrue (sym c.is_settled_empty.ensures.calls.called.same_honesty) honest in
    then_made (g.D.Device.disk c.args.first.now) (g.D.Device.disk c.is_settled_empty.new.device) (g.D.Device.disk c.write_new.new.device) (g.met.D.Device.lawful c.is_settled_empty.new.device) still only (c.is_settled_empty.ensures.moments honest) (c.write_new.ensures.moments still)

pub returns-clause-first : goal.returns-clause-first
returns-clause-first g c =
    and_called (g.D.Device.disk c.args.first.now) (g.D.Device.disk c.is_settled_empty.new.device) (g.D.Device.disk c.write_new.new.device) c.is_settled_empty.ensures.calls.called c.write_new.ensures.calls.called

pub returns-clause-made : goal.returns-clause-made
returns-clause-made g c =
    λ honest only.
    let still : IsTrue (g.D.Device.disk c.is_settled_empty.new.device).honest = subst IsTrue (sym c.is_settled_empty.ensures.calls.called.same_honesty) honest in
    then_made (g.D.Device.disk c.args.first.now) (g.D.Device.disk c.is_settled_empty.new.device) (g.D.Device.disk c.write_new.new.device) (g.met.D.Device.lawful c.is_settled_empty.new.device) still only (c.is_settled_empty.ensures.moments honest) (c.write_new.ensures.moments still)
