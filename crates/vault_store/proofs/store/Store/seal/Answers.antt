use Rattle.std.proofs.Common.{◌∙◌, length, List, ℕ, [], sym, ap, subst, arith, Ok, Bool, true, false}
use Rattle.vault_store.specs.declared.phase.Phase.TheVariants as phases
use Rattle.vault_store.specs.declared.phase.Advanced.TheVariants as answers
use Rattle.vault_store.specs.Seen.{StoreSeen}
use Rattle.vault_store.specs.View.{seen_of}
use Rattle.vault_store.specs.Sound.{IsSoundStore}
use Rattle.vault_store.specs.Step.{IsAdvance}
use Rattle.vault_store.proofs.Advances.{nothing_to_do, body_behind, body_failed, writes_body, body_torn}
use Rattle.vault_store.proofs.Sounds.{sealed_sound}
use Rattle.vault_store.proofs.Failed.{failed_by}
use Rattle.vault_store.proofs.store.Store.seal.Goals as goal

pub returns-then-len-eq0 : goal.returns-then-len-eq0
returns-then-len-eq0 g c =
    subst (λ (o : StoreSeen g.row.D.Denot). IsAdvance g.D.Device.disk o o (Ok answers.Idle)) c.self.view_is
    (nothing_to_do g.D.Device.disk (seen_of c.self.inside) (ap (λ (o : StoreSeen g.row.D.Denot). o.phase) c.self.view_is ∙ c.requires.phase) (ap (λ (o : StoreSeen g.row.D.Denot). o.broken) c.self.view_is ∙ c.requires.whole) (omega (arith, c.len.ensures.len, c.if-len-eq0.true)) (g.met.D.Device.lawful c.self.inside.active) (g.met.D.Device.lawful c.self.inside.spare))

pub invariant_of-self : goal.invariant_of-self
invariant_of-self g c =
    subst (λ (n : ℕ). IsSoundStore g.D.Device.disk (record (seen_of c.self.inside) { active = c.write_body-written.new.device; buffer = c.clear.new.self; sealed = n; phase = phases.Written; broken = c.self.inside.broken })) (sym c.len-2.ensures.len)
    (subst (λ (bytes : List ℕ). IsSoundStore g.D.Device.disk (record (seen_of c.self.inside) { active = c.write_body-written.new.device; buffer = bytes; sealed = length c.self.inside.frame; phase = phases.Written; broken = c.self.inside.broken })) (sym c.clear.ensures)
    (subst (λ (b : Bool). IsSoundStore g.D.Device.disk (record (seen_of c.self.inside) { active = c.write_body-written.new.device; buffer = []; sealed = length c.self.inside.frame; phase = phases.Written; broken = b })) (sym (ap (λ (o : StoreSeen g.row.D.Denot). o.broken) c.self.view_is ∙ c.requires.whole))
    (sealed_sound g.D.Device.disk (seen_of c.self.inside) c.write_body-written.new.device c.write_body-written.ensures.one_call.same_honesty c.self.invariant (ap (λ (o : StoreSeen g.row.D.Denot). o.broken) c.self.view_is ∙ c.requires.whole) false (ap (λ (o : StoreSeen g.row.D.Denot). o.phase) c.self.view_is ∙ c.requires.phase) (omega (arith, c.len.ensures.len, c.if-len-eq0.false)) (omega (arith, c.len.ensures.len, c.len.ensures.room))
    (λ honest. writes_body g.D.Device.disk (seen_of c.self.inside) c.write_body-written.new.device (ap (λ (o : StoreSeen g.row.D.Denot). o.broken) c.self.view_is ∙ c.requires.whole) (g.met.D.Device.lawful c.self.inside.active) (g.met.D.Device.lawful c.self.inside.spare) (c.in-Ok.ensures.write honest) (c.in-Ok.ensures.images honest)))))

pub invariant_of-self-in-Err : goal.invariant_of-self-in-Err
invariant_of-self-in-Err g c =
    subst (λ (n : ℕ). IsSoundStore g.D.Device.disk (record (seen_of c.self.inside) { active = c.write_body-written.new.device; buffer = c.clear.new.self; sealed = n; phase = phases.Written; broken = c.broken_by.new.broken })) (sym c.len-2.ensures.len)
    (subst (λ (bytes : List ℕ). IsSoundStore g.D.Device.disk (record (seen_of c.self.inside) { active = c.write_body-written.new.device; buffer = bytes; sealed = length c.self.inside.frame; phase = phases.Written; broken = c.broken_by.new.broken })) (sym c.clear.ensures)
    (subst (λ (b : Bool). IsSoundStore g.D.Device.disk (record (seen_of c.self.inside) { active = c.write_body-written.new.device; buffer = []; sealed = length c.self.inside.frame; phase = phases.Written; broken = b })) (sym c.broken_by.ensures.broken)
    (sealed_sound g.D.Device.disk (seen_of c.self.inside) c.write_body-written.new.device c.write_body-written.ensures.one_call.same_honesty c.self.invariant (ap (λ (o : StoreSeen g.row.D.Denot). o.broken) c.self.view_is ∙ c.requires.whole) true (ap (λ (o : StoreSeen g.row.D.Denot). o.phase) c.self.view_is ∙ c.requires.phase) (omega (arith, c.len.ensures.len, c.if-len-eq0.false)) (omega (arith, c.len.ensures.len, c.len.ensures.room))
    (λ honest. body_torn g.D.Device.disk (seen_of c.self.inside) c.write_body-written.new.device (ap (λ (o : StoreSeen g.row.D.Denot). o.broken) c.self.view_is ∙ c.requires.whole) (g.met.D.Device.lawful c.self.inside.active) (g.met.D.Device.lawful c.self.inside.spare) (c.in-Err.ensures.images honest)))))

pub returns-in-Ok : goal.returns-in-Ok
returns-in-Ok g c =
    subst (λ (n : ℕ). IsAdvance g.D.Device.disk c.args.self.now (record (seen_of c.self.inside) { active = c.write_body-written.new.device; buffer = c.clear.new.self; sealed = n; phase = phases.Written; broken = c.self.inside.broken }) (Ok answers.Moved)) (sym c.len-2.ensures.len)
    (subst (λ (bytes : List ℕ). IsAdvance g.D.Device.disk c.args.self.now (record (seen_of c.self.inside) { active = c.write_body-written.new.device; buffer = bytes; sealed = length c.self.inside.frame; phase = phases.Written; broken = c.self.inside.broken }) (Ok answers.Moved)) (sym c.clear.ensures)
    (subst (λ (o : StoreSeen g.row.D.Denot). IsAdvance g.D.Device.disk o (record (seen_of c.self.inside) { active = c.write_body-written.new.device; buffer = []; sealed = length c.self.inside.frame; phase = phases.Written }) (Ok answers.Moved)) c.self.view_is
    (body_behind g.D.Device.disk (seen_of c.self.inside) c.write_body-written.new.device (ap (λ (o : StoreSeen g.row.D.Denot). o.broken) c.self.view_is ∙ c.requires.whole) (g.met.D.Device.lawful c.self.inside.active) (g.met.D.Device.lawful c.self.inside.spare) (ap (λ (o : StoreSeen g.row.D.Denot). o.phase) c.self.view_is ∙ c.requires.phase) (omega (arith, c.len.ensures.len, c.if-len-eq0.false)) (omega (arith, c.len.ensures.len, c.len.ensures.room))
    c.in-Ok.ensures.one_call c.in-Ok.ensures.write c.in-Ok.ensures.images c.in-Ok.ensures.moments)))

pub returns-in-Err : goal.returns-in-Err
returns-in-Err g c =
    subst (λ (n : ℕ). IsAdvance g.D.Device.disk c.args.self.now (record (seen_of c.self.inside) { active = c.write_body-written.new.device; buffer = c.clear.new.self; sealed = n; phase = phases.Written; broken = c.broken_by.new.broken }) c.broken_by.result) (sym c.len-2.ensures.len)
    (subst (λ (bytes : List ℕ). IsAdvance g.D.Device.disk c.args.self.now (record (seen_of c.self.inside) { active = c.write_body-written.new.device; buffer = bytes; sealed = length c.self.inside.frame; phase = phases.Written; broken = c.broken_by.new.broken }) c.broken_by.result) (sym c.clear.ensures)
    (failed_by g.D.Device.disk (seen_of c.self.inside) (record (seen_of c.self.inside) { active = c.write_body-written.new.device; buffer = []; sealed = length c.self.inside.frame; phase = phases.Written; broken = true }) c.in-Err.fault c.self.view_is c.broken_by.ensures.broken c.broken_by.ensures.told
    (body_failed g.D.Device.disk (seen_of c.self.inside) c.write_body-written.new.device (ap (λ (o : StoreSeen g.row.D.Denot). o.broken) c.self.view_is ∙ c.requires.whole) (g.met.D.Device.lawful c.self.inside.active) (g.met.D.Device.lawful c.self.inside.spare) c.in-Err.fault (ap (λ (o : StoreSeen g.row.D.Denot). o.phase) c.self.view_is ∙ c.requires.phase) (omega (arith, c.len.ensures.len, c.if-len-eq0.false)) (omega (arith, c.len.ensures.len, c.len.ensures.room))
    c.in-Err.ensures.one_call c.in-Err.ensures.images c.in-Err.ensures.moments)))
