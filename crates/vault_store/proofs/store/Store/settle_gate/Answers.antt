use Rattle.std.proofs.Common.{◌∙◌, ◌+◌, refl, sym, ap, subst, Ok, Bool, true}
use Rattle.vault_store.specs.declared.phase.Phase.TheVariants as phases
use Rattle.vault_store.specs.declared.phase.Advanced.TheVariants as answers
use Rattle.vault_store.specs.Seen.{StoreSeen}
use Rattle.vault_store.specs.View.{seen_of}
use Rattle.vault_store.specs.Sound.{IsSoundStore}
use Rattle.vault_store.specs.Step.{IsAdvance}
use Rattle.vault_store.proofs.Advances.{gate_settled, gate_still_open, settles_gate}
use Rattle.vault_store.proofs.Sounds.{settled_sound}
use Rattle.vault_store.proofs.Failed.{failed_by}
use Rattle.vault_store.proofs.store.Store.settle_gate.Goals as goal

pub invariant_of-self : goal.invariant_of-self
invariant_of-self g c =
    subst (λ (b : Bool). IsSoundStore g.D.Device.disk (record (seen_of c.self.inside) { active = c.settle_gate.new.device; tail = c.self.inside.tail + (c.self.inside.sealed + 5); journal_length = c.self.inside.journal_length + (c.self.inside.sealed + 5); sealed = 0; phase = phases.Idle; broken = b })) (sym (ap (λ (o : StoreSeen g.row.D.Denot). o.broken) c.self.view_is ∙ c.requires.whole))
    (settled_sound g.D.Device.disk (seen_of c.self.inside) c.settle_gate.new.device c.settle_gate.ensures.one_call.same_honesty c.self.invariant (ap (λ (o : StoreSeen g.row.D.Denot). o.broken) c.self.view_is ∙ c.requires.whole) (c.self.inside.tail + (c.self.inside.sealed + 5)) (c.self.inside.journal_length + (c.self.inside.sealed + 5)) refl refl (ap (λ (o : StoreSeen g.row.D.Denot). o.phase) c.self.view_is ∙ c.requires.phase)
    (λ honest. settles_gate g.D.Device.disk (seen_of c.self.inside) c.settle_gate.new.device (ap (λ (o : StoreSeen g.row.D.Denot). o.broken) c.self.view_is ∙ c.requires.whole) (g.met.D.Device.lawful c.self.inside.active) (g.met.D.Device.lawful c.self.inside.spare) honest (c.in-Ok.ensures.sync honest)))

pub returns-in-Ok : goal.returns-in-Ok
returns-in-Ok g c =
    subst (λ (o : StoreSeen g.row.D.Denot). IsAdvance g.D.Device.disk o (record (seen_of c.self.inside) { active = c.settle_gate.new.device; tail = c.self.inside.tail + (c.self.inside.sealed + 5); journal_length = c.self.inside.journal_length + (c.self.inside.sealed + 5); sealed = 0; phase = phases.Idle }) (Ok answers.Settled)) c.self.view_is
    (gate_settled g.D.Device.disk (seen_of c.self.inside) c.settle_gate.new.device (ap (λ (o : StoreSeen g.row.D.Denot). o.broken) c.self.view_is ∙ c.requires.whole) (g.met.D.Device.lawful c.self.inside.active) (g.met.D.Device.lawful c.self.inside.spare) (c.self.inside.tail + (c.self.inside.sealed + 5)) (c.self.inside.journal_length + (c.self.inside.sealed + 5)) refl refl (ap (λ (o : StoreSeen g.row.D.Denot). o.phase) c.self.view_is ∙ c.requires.phase)
    c.in-Ok.ensures.one_call c.in-Ok.ensures.sync c.in-Ok.ensures.moments)

pub returns-in-Err : goal.returns-in-Err
returns-in-Err g c =
    failed_by g.D.Device.disk (seen_of c.self.inside) (record (seen_of c.self.inside) { active = c.settle_gate.new.device; broken = true }) c.in-Err.fault c.self.view_is c.broken_by.ensures.broken c.broken_by.ensures.told
    (gate_still_open g.D.Device.disk (seen_of c.self.inside) c.settle_gate.new.device (ap (λ (o : StoreSeen g.row.D.Denot). o.broken) c.self.view_is ∙ c.requires.whole) (g.met.D.Device.lawful c.self.inside.active) (g.met.D.Device.lawful c.self.inside.spare) c.in-Err.fault (ap (λ (o : StoreSeen g.row.D.Denot). o.phase) c.self.view_is ∙ c.requires.phase)
    c.in-Err.ensures.one_call c.in-Err.ensures.sync c.in-Err.ensures.moments)
