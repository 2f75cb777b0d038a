use Rattle.std.proofs.Common.{◌≡◌, ◌⊎◌, inl, inr, ◌∙◌}
use Rattle.vault_store.specs.declared.opening.OpenError.{OpenError}
use Rattle.vault_store.specs.declared.opening.OpenError.TheVariants.{Device as DeviceFailed, NoMemory as Wanted}
use Rattle.vault_store.specs.Calls.{HasCause, AreQuiet}
use Rattle.vault_store.specs.OnDisk.{IsSettled}
use Rattle.vault_store.specs.Opening.{IsNotOpened}
use Rattle.vault_store.proofs.HandedOn.{handed_on, settled_behind}
use Rattle.vault_store.proofs.Looked.{told_as, on_any, both_settled, left_settled, why_caused, read_before, shut_before, first_wrong, newer_found, none_found, shut_found, not_caused}
use Rattle.vault_store.proofs.Opened.{second_wrong}
use Rattle.vault_store.proofs.Steps.{no_reads}
use Rattle.vault_store.proofs.opening.find_active.Goals as goal

pub returns-in_err-other-clause-refused : goal.returns-in_err-other-clause-refused
returns-in_err-other-clause-refused g c =
    second_wrong (g.D.Device.disk c.args.first.now) (g.D.Device.disk c.args.second.now) (g.D.Device.disk c.sync.new.self) (g.D.Device.disk c.sync-2.new.self) (g.D.Device.disk c.look_at-2.new.device)
    c.from_residual-in_err-other.result c.in_err-other.field-0.0 c.in_ok-one.one.generation c.sync.ensures.one_call.same_honesty c.sync-2.ensures.one_call.same_honesty
    (λ honest. (c.sync.ensures.sync honest).shown) (λ honest. (c.sync-2.ensures.sync honest).shown) c.in_ok-one.ensures.generation c.in_err-other.ensures.refused c.from_residual-in_err-other.ensures.1

pub returns-in_err-one-clause-first : goal.returns-in_err-one-clause-first
returns-in_err-one-clause-first g c =
    handed_on (g.D.Device.disk c.args.first.now) (g.D.Device.disk c.sync.new.self) (g.D.Device.disk c.look_at.new.device) c.sync.result c.sync.ensures.one_call c.sync.ensures.sync c.look_at.ensures.reads (g.met.D.Device.lawful c.args.first.now) (g.met.D.Device.lawful c.sync.new.self)

pub returns-in_err-one-clause-second : goal.returns-in_err-one-clause-second
returns-in_err-one-clause-second g c =
    handed_on (g.D.Device.disk c.args.second.now) (g.D.Device.disk c.sync-2.new.self) (g.D.Device.disk c.sync-2.new.self) c.sync-2.result c.sync-2.ensures.one_call c.sync-2.ensures.sync (no_reads (g.D.Device.disk c.sync-2.new.self)) (g.met.D.Device.lawful c.args.second.now) (g.met.D.Device.lawful c.sync-2.new.self)

pub returns-in_err-one-clause-refused : goal.returns-in_err-one-clause-refused
returns-in_err-one-clause-refused g c = λ honest other.
    told_as c.from_residual-in_err-one.result c.in_err-one.field-0.0 (λ (e : OpenError). IsNotOpened (g.D.Device.disk c.args.first.now).shown (g.D.Device.disk c.args.second.now).shown e) c.from_residual-in_err-one.ensures.1
    (first_wrong (g.D.Device.disk c.args.first.now) (g.D.Device.disk c.sync.new.self) (g.D.Device.disk c.look_at.new.device) (g.D.Device.disk c.args.second.now).shown c.in_err-one.field-0.0 c.sync.ensures.one_call.same_honesty (λ honest. (c.sync.ensures.sync honest).shown) c.in_err-one.ensures.refused honest)

pub returns-in_err-one-clause-cause : goal.returns-in_err-one-clause-cause
returns-in_err-one-clause-cause g c =
    told_as c.from_residual-in_err-one.result c.in_err-one.field-0.0 (λ (e : OpenError). e ≡ DeviceFailed → HasCause (g.D.Device.disk c.args.first.now) (g.D.Device.disk c.look_at.new.device) ⊎ HasCause (g.D.Device.disk c.args.second.now) (g.D.Device.disk c.sync-2.new.self)) c.from_residual-in_err-one.ensures.1
    (λ same. inl (why_caused (g.D.Device.disk c.args.first.now) (g.D.Device.disk c.sync.new.self) (g.D.Device.disk c.look_at.new.device) _ _ c.in_err-one.field-0.0 c.sync.ensures.one_call.no_fewer_faults c.in_err-one.ensures.refused same))

pub returns-in_err-one-clause-memory : goal.returns-in_err-one-clause-memory
returns-in_err-one-clause-memory g c =
    told_as c.from_residual-in_err-one.result c.in_err-one.field-0.0 (λ (e : OpenError). e ≡ Wanted → ⊥) c.from_residual-in_err-one.ensures.1 c.in_err-one.ensures.memory

pub returns-in_err-other-clause-first : goal.returns-in_err-other-clause-first
returns-in_err-other-clause-first g c =
    handed_on (g.D.Device.disk c.args.first.now) (g.D.Device.disk c.sync.new.self) (g.D.Device.disk c.look_at.new.device) c.sync.result c.sync.ensures.one_call c.sync.ensures.sync c.look_at.ensures.reads (g.met.D.Device.lawful c.args.first.now) (g.met.D.Device.lawful c.sync.new.self)

pub returns-in_err-other-clause-second : goal.returns-in_err-other-clause-second
returns-in_err-other-clause-second g c =
    handed_on (g.D.Device.disk c.args.second.now) (g.D.Device.disk c.sync-2.new.self) (g.D.Device.disk c.look_at-2.new.device) c.sync-2.result c.sync-2.ensures.one_call c.sync-2.ensures.sync c.look_at-2.ensures.reads (g.met.D.Device.lawful c.args.second.now) (g.met.D.Device.lawful c.sync-2.new.self)

pub returns-in_err-other-clause-settled : goal.returns-in_err-other-clause-settled
returns-in_err-other-clause-settled g c =
    left_settled c.from_residual-in_err-other.result (g.D.Device.disk c.look_at.new.device) (g.D.Device.disk c.look_at-2.new.device)
    (both_settled (g.D.Device.disk c.args.first.now) (g.D.Device.disk c.args.second.now) (g.D.Device.disk c.look_at.new.device) (g.D.Device.disk c.look_at-2.new.device) (c.look_at.ensures.reads.called.same_honesty ∙ c.sync.ensures.one_call.same_honesty) (c.look_at-2.ensures.reads.called.same_honesty ∙ c.sync-2.ensures.one_call.same_honesty)
    (settled_behind (g.D.Device.disk c.args.first.now) (g.D.Device.disk c.sync.new.self) (g.D.Device.disk c.look_at.new.device) c.sync.result c.sync.ensures.one_call c.sync.ensures.sync c.look_at.ensures.reads c.in_ok-sync.was) (settled_behind (g.D.Device.disk c.args.second.now) (g.D.Device.disk c.sync-2.new.self) (g.D.Device.disk c.look_at-2.new.device) c.sync-2.result c.sync-2.ensures.one_call c.sync-2.ensures.sync c.look_at-2.ensures.reads c.in_ok-sync-2.was))

pub returns-in_err-other-clause-cause : goal.returns-in_err-other-clause-cause
returns-in_err-other-clause-cause g c =
    told_as c.from_residual-in_err-other.result c.in_err-other.field-0.0 (λ (e : OpenError). e ≡ DeviceFailed → HasCause (g.D.Device.disk c.args.first.now) (g.D.Device.disk c.look_at.new.device) ⊎ HasCause (g.D.Device.disk c.args.second.now) (g.D.Device.disk c.look_at-2.new.device)) c.from_residual-in_err-other.ensures.1
    (λ same. inr (why_caused (g.D.Device.disk c.args.second.now) (g.D.Device.disk c.sync-2.new.self) (g.D.Device.disk c.look_at-2.new.device) _ _ c.in_err-other.field-0.0 c.sync-2.ensures.one_call.no_fewer_faults c.in_err-other.ensures.refused same))

pub returns-in_err-other-clause-memory : goal.returns-in_err-other-clause-memory
returns-in_err-other-clause-memory g c =
    told_as c.from_residual-in_err-other.result c.in_err-other.field-0.0 (λ (e : OpenError). e ≡ Wanted → ⊥) c.from_residual-in_err-other.ensures.1 c.in_err-other.ensures.memory

pub returns-clause-first : goal.returns-clause-first
returns-clause-first g c =
    handed_on (g.D.Device.disk c.args.first.now) (g.D.Device.disk c.sync.new.self) (g.D.Device.disk c.look_at.new.device) c.sync.result c.sync.ensures.one_call c.sync.ensures.sync c.look_at.ensures.reads (g.met.D.Device.lawful c.args.first.now) (g.met.D.Device.lawful c.sync.new.self)

pub returns-clause-second : goal.returns-clause-second
returns-clause-second g c =
    handed_on (g.D.Device.disk c.args.second.now) (g.D.Device.disk c.sync-2.new.self) (g.D.Device.disk c.look_at-2.new.device) c.sync-2.result c.sync-2.ensures.one_call c.sync-2.ensures.sync c.look_at-2.ensures.reads (g.met.D.Device.lawful c.args.second.now) (g.met.D.Device.lawful c.sync-2.new.self)

pub returns-clause-settled_first : goal.returns-clause-settled_first
returns-clause-settled_first g c =
    λ honest. on_any c.newer.result (IsSettled (g.D.Device.disk c.look_at.new.device)) (settled_behind (g.D.Device.disk c.args.first.now) (g.D.Device.disk c.sync.new.self) (g.D.Device.disk c.look_at.new.device) c.sync.result c.sync.ensures.one_call c.sync.ensures.sync c.look_at.ensures.reads c.in_ok-sync.was honest)

pub returns-clause-settled_second : goal.returns-clause-settled_second
returns-clause-settled_second g c =
    λ honest. on_any c.newer.result (IsSettled (g.D.Device.disk c.look_at-2.new.device)) (settled_behind (g.D.Device.disk c.args.second.now) (g.D.Device.disk c.sync-2.new.self) (g.D.Device.disk c.look_at-2.new.device) c.sync-2.result c.sync-2.ensures.one_call c.sync-2.ensures.sync c.look_at-2.ensures.reads c.in_ok-sync-2.was honest)

pub returns-clause-found : goal.returns-clause-found
returns-clause-found g c =
    λ honest other. newer_found c.newer.result c.in_ok-one.one.generation c.in_ok-other.other.generation (g.D.Device.disk c.args.first.now).shown (g.D.Device.disk c.args.second.now).shown c.newer.ensures.newer
    (read_before (g.D.Device.disk c.args.first.now) (g.D.Device.disk c.sync.new.self) c.in_ok-one.one.generation c.sync.ensures.one_call.same_honesty (λ honest. (c.sync.ensures.sync honest).shown) c.in_ok-one.ensures.generation honest)
    (read_before (g.D.Device.disk c.args.second.now) (g.D.Device.disk c.sync-2.new.self) c.in_ok-other.other.generation c.sync-2.ensures.one_call.same_honesty (λ honest. (c.sync-2.ensures.sync honest).shown) c.in_ok-other.ensures.generation other)

pub returns-clause-refused : goal.returns-clause-refused
returns-clause-refused g c =
    λ honest other. none_found c.newer.result c.in_ok-one.one.generation c.in_ok-other.other.generation (g.D.Device.disk c.args.first.now).shown (g.D.Device.disk c.args.second.now).shown c.newer.ensures.refused
    (read_before (g.D.Device.disk c.args.first.now) (g.D.Device.disk c.sync.new.self) c.in_ok-one.one.generation c.sync.ensures.one_call.same_honesty (λ honest. (c.sync.ensures.sync honest).shown) c.in_ok-one.ensures.generation honest)
    (read_before (g.D.Device.disk c.args.second.now) (g.D.Device.disk c.sync-2.new.self) c.in_ok-other.other.generation c.sync-2.ensures.one_call.same_honesty (λ honest. (c.sync-2.ensures.sync honest).shown) c.in_ok-other.ensures.generation other)

pub returns-clause-shut : goal.returns-clause-shut
returns-clause-shut g c =
    shut_found g.D.Device.disk c.args.first.now c.args.second.now c.newer.result c.in_ok-one.one.shut c.in_ok-other.other.shut c.newer.ensures.shut
    (shut_before (g.D.Device.disk c.args.first.now) (g.D.Device.disk c.sync.new.self) c.in_ok-one.one.shut c.sync.ensures.one_call.same_honesty (λ honest. (c.sync.ensures.sync honest).shown) c.in_ok-one.ensures.shut)
    (shut_before (g.D.Device.disk c.args.second.now) (g.D.Device.disk c.sync-2.new.self) c.in_ok-other.other.shut c.sync-2.ensures.one_call.same_honesty (λ honest. (c.sync-2.ensures.sync honest).shown) c.in_ok-other.ensures.shut)

pub returns-clause-settled : goal.returns-clause-settled
returns-clause-settled g c =
    left_settled c.newer.result (g.D.Device.disk c.look_at.new.device) (g.D.Device.disk c.look_at-2.new.device)
    (both_settled (g.D.Device.disk c.args.first.now) (g.D.Device.disk c.args.second.now) (g.D.Device.disk c.look_at.new.device) (g.D.Device.disk c.look_at-2.new.device) (c.look_at.ensures.reads.called.same_honesty ∙ c.sync.ensures.one_call.same_honesty) (c.look_at-2.ensures.reads.called.same_honesty ∙ c.sync-2.ensures.one_call.same_honesty)
    (settled_behind (g.D.Device.disk c.args.first.now) (g.D.Device.disk c.sync.new.self) (g.D.Device.disk c.look_at.new.device) c.sync.result c.sync.ensures.one_call c.sync.ensures.sync c.look_at.ensures.reads c.in_ok-sync.was) (settled_behind (g.D.Device.disk c.args.second.now) (g.D.Device.disk c.sync-2.new.self) (g.D.Device.disk c.look_at-2.new.device) c.sync-2.result c.sync-2.ensures.one_call c.sync-2.ensures.sync c.look_at-2.ensures.reads c.in_ok-sync-2.was))

pub returns-clause-cause : goal.returns-clause-cause
returns-clause-cause g c = not_caused c.newer.result _ c.newer.ensures.files

pub returns-clause-quiet : goal.returns-clause-quiet
returns-clause-quiet g c =
    on_any c.newer.result (AreQuiet (g.D.Device.disk c.args.first.now) (g.D.Device.disk c.args.second.now) (g.D.Device.disk c.look_at.new.device) (g.D.Device.disk c.look_at-2.new.device))
    (record { same_faults = c.in_ok-one.ensures.quiet.same_faults ∙ c.in_ok-sync.ensures.one_call.no_fault }, record { same_faults = c.in_ok-other.ensures.quiet.same_faults ∙ c.in_ok-sync-2.ensures.one_call.no_fault })
