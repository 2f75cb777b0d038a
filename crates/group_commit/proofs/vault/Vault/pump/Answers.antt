use Rattle.std.proofs.Common.{◌≡◌, ◌≢◌, ◌∙◌, cond, ap, sym, subst, refl, true}
use Rattle.std.specs.Prelude.{Ok, Err}
use Rattle.vault_store.specs.declared.phase.Advanced.TheVariants as answers
use Rattle.vault_store.specs.Phases.{is_idle}
use Rattle.group_commit.specs.View.{length_of}
use Rattle.group_commit.specs.Seen.{VaultSeen, state_of}
use Rattle.group_commit.specs.Inside.{seen_of, IsSoundVault}
use Rattle.group_commit.proofs.Pumps.{IsPump, store_step, rested, settled_all, settled_all_kept, settled_sealed, settled_sealed_kept, moved, moved_kept, fault, fault_kept, not_broken}
use Rattle.group_commit.proofs.Companions.{stays, passes}
use Rattle.group_commit.proofs.Nexts.{pump_is_answered, pump_stops}
use Rattle.group_commit.proofs.vault.Vault.pump.Goals as goal

pub unreachable-requires : goal.unreachable-requires
unreachable-requires g c =
    let seen = seen_of c.self.inside in
    let e = c.in-Ok-Broken.ensures in
    not_broken g.D.Device.disk seen c.self.inside.book c.self.invariant.0 c.advance.new.self c.if-self.false (store_step (ap Ok c.in-Ok-Broken.field-0-is) c.self.invariant.0.stands e.step e.numbers e.calls e.rests e.moments)

pub returns-then-self-all : goal.returns-then-self-all
returns-then-self-all g c =
    let seen = seen_of c.self.inside in
    let e = c.in-Ok-Idle.ensures in
    let all : c.len-all.result ≡ length_of seen.view = c.len-all.ensures ∙ ap (λ (s : VaultSeen _). length_of s.view) (sym c.self.view_is) in
    let d = subst (λ (old : VaultSeen _). IsPump g.D.Device.disk old (seen_of (record c.self.inside { store = c.advance.new.self })) (Ok answers.Idle)) c.self.view_is
    (rested g.D.Device.disk seen c.self.inside.book c.self.invariant.0 c.advance.new.self c.if-self.false (store_step (ap Ok c.in-Ok-Idle.field-0-is) c.self.invariant.0.stands e.step e.numbers e.calls e.rests e.moments) (c.if-self-all.true ∙ all)) in
    record { broken = d.broken; answer = d.answer; pumped = d.pumped; failed = d.failed; life = d.life; still = d.still; calls = d.calls; numbers = d.numbers; moments = d.moments; answered = pump_is_answered d; stops = pump_stops d; one_vault = stays g.D.Device.disk seen _ c.advance.new.self c.self.view_is (e.one_vault (state_of seen.view) c.self.invariant.0.stands); passes = λ unbroken. passes g.D.Device.disk seen _ c.advance.new.self c.self.view_is (state_of seen.view) c.self.invariant.0.stands (e.passes (state_of seen.view)) }

pub invariant_of-self-in-Ok-Idle : goal.invariant_of-self-in-Ok-Idle
invariant_of-self-in-Ok-Idle g c =
    let seen = seen_of c.self.inside in
    let e = c.in-Ok-Idle.ensures in
    let all : c.len-all.result ≡ length_of seen.view = c.len-all.ensures ∙ ap (λ (s : VaultSeen _). length_of s.view) (sym c.self.view_is) in
    let some : c.self.inside.settled ≢ length_of seen.view = λ h. c.if-self-all.false (h ∙ sym all) in (
      subst (λ n. IsSoundVault g.D.Device.disk (seen_of (record c.self.inside { store = c.advance.new.self; settled = n; sealed = c.self.inside.sealed; broken = c.self.inside.broken })) c.self.inside.book) (sym all)
          (settled_all_kept g.D.Device.disk seen c.self.inside.book c.self.invariant.0 c.advance.new.self c.if-self.false (store_step (ap Ok c.in-Ok-Idle.field-0-is) c.self.invariant.0.stands e.step e.numbers e.calls e.rests e.moments) some),
      c.self.invariant.1,
    )

pub returns-else-self-all : goal.returns-else-self-all
returns-else-self-all g c =
    let seen = seen_of c.self.inside in
    let e = c.in-Ok-Idle.ensures in
    let all : c.len-all.result ≡ length_of seen.view = c.len-all.ensures ∙ ap (λ (s : VaultSeen _). length_of s.view) (sym c.self.view_is) in
    let some : c.self.inside.settled ≢ length_of seen.view = λ h. c.if-self-all.false (h ∙ sym all) in
    let d = subst (λ (old : VaultSeen _). IsPump g.D.Device.disk old (seen_of (record c.self.inside { store = c.advance.new.self; settled = c.len-all.result; sealed = c.self.inside.sealed; broken = c.self.inside.broken })) (Ok answers.Settled)) c.self.view_is
    (subst (λ n. IsPump g.D.Device.disk seen (seen_of (record c.self.inside { store = c.advance.new.self; settled = n; sealed = c.self.inside.sealed; broken = c.self.inside.broken })) (Ok answers.Settled)) (sym all) (settled_all g.D.Device.disk seen c.self.inside.book c.self.invariant.0 c.advance.new.self c.if-self.false (store_step (ap Ok c.in-Ok-Idle.field-0-is) c.self.invariant.0.stands e.step e.numbers e.calls e.rests e.moments) some)) in
    record { broken = d.broken; answer = d.answer; pumped = d.pumped; failed = d.failed; life = d.life; still = d.still; calls = d.calls; numbers = d.numbers; moments = d.moments; answered = pump_is_answered d; stops = pump_stops d; one_vault = stays g.D.Device.disk seen _ c.advance.new.self c.self.view_is (e.one_vault (state_of seen.view) c.self.invariant.0.stands); passes = λ unbroken. passes g.D.Device.disk seen _ c.advance.new.self c.self.view_is (state_of seen.view) c.self.invariant.0.stands (e.passes (state_of seen.view)) }

pub invariant_of-self-in-Ok-Settled : goal.invariant_of-self-in-Ok-Settled
invariant_of-self-in-Ok-Settled g c =
    let seen = seen_of c.self.inside in
    let e = c.in-Ok-Settled.ensures in (
      settled_sealed_kept g.D.Device.disk seen c.self.inside.book c.self.invariant.0 c.advance.new.self c.if-self.false (store_step (ap Ok c.in-Ok-Settled.field-0-is) c.self.invariant.0.stands e.step e.numbers e.calls e.rests e.moments),
      c.self.invariant.1,
    )

pub returns-in-Ok-Settled : goal.returns-in-Ok-Settled
returns-in-Ok-Settled g c =
    let seen = seen_of c.self.inside in
    let e = c.in-Ok-Settled.ensures in
    let d = subst (λ (old : VaultSeen _). IsPump g.D.Device.disk old (seen_of (record c.self.inside { store = c.advance.new.self; settled = c.self.inside.sealed; sealed = c.self.inside.sealed; broken = c.self.inside.broken })) (Ok answers.Settled)) c.self.view_is
    (settled_sealed g.D.Device.disk seen c.self.inside.book c.self.invariant.0 c.advance.new.self c.if-self.false (store_step (ap Ok c.in-Ok-Settled.field-0-is) c.self.invariant.0.stands e.step e.numbers e.calls e.rests e.moments)) in
    record { broken = d.broken; answer = d.answer; pumped = d.pumped; failed = d.failed; life = d.life; still = d.still; calls = d.calls; numbers = d.numbers; moments = d.moments; answered = pump_is_answered d; stops = pump_stops d; one_vault = stays g.D.Device.disk seen _ c.advance.new.self c.self.view_is (e.one_vault (state_of seen.view) c.self.invariant.0.stands); passes = λ unbroken. passes g.D.Device.disk seen _ c.advance.new.self c.self.view_is (state_of seen.view) c.self.invariant.0.stands (e.passes (state_of seen.view)) }

pub invariant_of-self-in-Ok-Moved : goal.invariant_of-self-in-Ok-Moved
invariant_of-self-in-Ok-Moved g c =
    let seen = seen_of c.self.inside in
    let e = c.in-Ok-Moved.ensures in
    let is = subst (λ (old : VaultSeen _). c.sealed_next-sealed.result ≡ cond (is_idle old.store.phase) (length_of old.view) old.view.sealed) (sym c.self.view_is) c.sealed_next-sealed.ensures in (
      moved_kept g.D.Device.disk seen c.self.inside.book c.self.invariant.0 c.advance.new.self c.if-self.false c.sealed_next-sealed.result (store_step (ap Ok c.in-Ok-Moved.field-0-is) c.self.invariant.0.stands e.step e.numbers e.calls e.rests e.moments) is,
      c.self.invariant.1,
    )

pub returns-in-Ok-Moved : goal.returns-in-Ok-Moved
returns-in-Ok-Moved g c =
    let seen = seen_of c.self.inside in
    let e = c.in-Ok-Moved.ensures in
    let is = subst (λ (old : VaultSeen _). c.sealed_next-sealed.result ≡ cond (is_idle old.store.phase) (length_of old.view) old.view.sealed) (sym c.self.view_is) c.sealed_next-sealed.ensures in
    let d = subst (λ (old : VaultSeen _). IsPump g.D.Device.disk old (seen_of (record c.self.inside { store = c.advance.new.self; settled = c.self.inside.settled; sealed = c.sealed_next-sealed.result; broken = c.self.inside.broken })) (Ok answers.Moved)) c.self.view_is
    (moved g.D.Device.disk seen c.self.inside.book c.self.invariant.0 c.advance.new.self c.if-self.false c.sealed_next-sealed.result (store_step (ap Ok c.in-Ok-Moved.field-0-is) c.self.invariant.0.stands e.step e.numbers e.calls e.rests e.moments) is) in
    record { broken = d.broken; answer = d.answer; pumped = d.pumped; failed = d.failed; life = d.life; still = d.still; calls = d.calls; numbers = d.numbers; moments = d.moments; answered = pump_is_answered d; stops = pump_stops d; one_vault = stays g.D.Device.disk seen _ c.advance.new.self c.self.view_is (e.one_vault (state_of seen.view) c.self.invariant.0.stands); passes = λ unbroken. passes g.D.Device.disk seen _ c.advance.new.self c.self.view_is (state_of seen.view) c.self.invariant.0.stands (e.passes (state_of seen.view)) }

pub invariant_of-self-in-Err : goal.invariant_of-self-in-Err
invariant_of-self-in-Err g c =
    let seen = seen_of c.self.inside in
    let e = c.in-Err.ensures in
    let is = subst (λ (old : VaultSeen _). c.sealed_next-sealed.result ≡ cond (is_idle old.store.phase) (length_of old.view) old.view.sealed) (sym c.self.view_is) c.sealed_next-sealed.ensures in (
      fault_kept g.D.Device.disk seen c.self.inside.book c.self.invariant.0 c.advance.new.self c.if-self.false c.sealed_next-sealed.result c.in-Err.fault (store_step refl c.self.invariant.0.stands e.step e.numbers e.calls e.rests e.moments) is,
      c.self.invariant.1,
    )

pub returns-in-Err : goal.returns-in-Err
returns-in-Err g c =
    let seen = seen_of c.self.inside in
    let e = c.in-Err.ensures in
    let is = subst (λ (old : VaultSeen _). c.sealed_next-sealed.result ≡ cond (is_idle old.store.phase) (length_of old.view) old.view.sealed) (sym c.self.view_is) c.sealed_next-sealed.ensures in
    let d = subst (λ (old : VaultSeen _). IsPump g.D.Device.disk old (seen_of (record c.self.inside { store = c.advance.new.self; settled = c.self.inside.settled; sealed = c.sealed_next-sealed.result; broken = true })) (Err c.in-Err.fault)) c.self.view_is
    (fault g.D.Device.disk seen c.self.inside.book c.self.invariant.0 c.advance.new.self c.if-self.false c.sealed_next-sealed.result c.in-Err.fault (store_step refl c.self.invariant.0.stands e.step e.numbers e.calls e.rests e.moments) is) in
    record { broken = d.broken; answer = d.answer; pumped = d.pumped; failed = d.failed; life = d.life; still = d.still; calls = d.calls; numbers = d.numbers; moments = d.moments; answered = pump_is_answered d; stops = pump_stops d; one_vault = stays g.D.Device.disk seen _ c.advance.new.self c.self.view_is (e.one_vault (state_of seen.view) c.self.invariant.0.stands); passes = λ unbroken. passes g.D.Device.disk seen _ c.advance.new.self c.self.view_is (state_of seen.view) c.self.invariant.0.stands (e.passes (state_of seen.view)) }
