use Rattle.std.proofs.Common.{◌∙◌, refl, sym, ap, subst, Ok, Bool, true}
use Rattle.vault_store.specs.declared.phase.Phase.TheVariants as phases
use Rattle.vault_store.specs.declared.phase.Advanced.TheVariants as answers
use Rattle.vault_store.specs.Seen.{StoreSeen}
use Rattle.vault_store.specs.View.{seen_of}
use Rattle.vault_store.specs.Sound.{IsSoundStore}
use Rattle.vault_store.specs.Step.{IsAdvance}
use Rattle.vault_store.proofs.Advances.{gate_opened, gate_left, opens_gate, gate_torn}
use Rattle.vault_store.proofs.Kept.{IsMove}
use Rattle.vault_store.proofs.Sounds.{phase_sound}
use Rattle.vault_store.proofs.Failed.{failed_by}
use Rattle.vault_store.proofs.store.Store.open_gate.Goals as goal

pub invariant_of-self : goal.invariant_of-self
invariant_of-self g c =
    phase_sound g.D.Device.disk (seen_of c.self.inside) c.open_gate-opened.new.device c.open_gate-opened.ensures.one_call.same_honesty c.self.invariant (ap (λ (o : StoreSeen g.row.D.Denot). o.broken) c.self.view_is ∙ c.requires.whole) phases.Bodied phases.Opening c.self.inside.broken (ap (λ (o : StoreSeen g.row.D.Denot). o.phase) c.self.view_is ∙ c.requires.phase) refl refl refl refl tt
    (λ honest. subst (λ (b : Bool). IsMove (g.D.Device.disk c.self.inside.active) (g.D.Device.disk c.open_gate-opened.new.device) c.self.inside.tail c.self.inside.sealed phases.Bodied phases.Opening b) (sym (ap (λ (o : StoreSeen g.row.D.Denot). o.broken) c.self.view_is ∙ c.requires.whole)) (opens_gate g.D.Device.disk (seen_of c.self.inside) c.open_gate-opened.new.device (ap (λ (o : StoreSeen g.row.D.Denot). o.broken) c.self.view_is ∙ c.requires.whole) (g.met.D.Device.lawful c.self.inside.active) (g.met.D.Device.lawful c.self.inside.spare) (c.in-Ok.ensures.write honest) (c.in-Ok.ensures.opened honest) (c.in-Ok.ensures.images honest) (c.in-Ok.ensures.read honest)))

pub invariant_of-self-in-Err : goal.invariant_of-self-in-Err
invariant_of-self-in-Err g c =
    subst (λ (b : Bool). IsSoundStore g.D.Device.disk (record (seen_of c.self.inside) { active = c.open_gate-opened.new.device; phase = phases.Opening; broken = b })) (sym c.broken_by.ensures.broken)
    (phase_sound g.D.Device.disk (seen_of c.self.inside) c.open_gate-opened.new.device c.open_gate-opened.ensures.one_call.same_honesty c.self.invariant (ap (λ (o : StoreSeen g.row.D.Denot). o.broken) c.self.view_is ∙ c.requires.whole) phases.Bodied phases.Opening true (ap (λ (o : StoreSeen g.row.D.Denot). o.phase) c.self.view_is ∙ c.requires.phase) refl refl refl refl tt
    (λ honest. gate_torn g.D.Device.disk (seen_of c.self.inside) c.open_gate-opened.new.device (ap (λ (o : StoreSeen g.row.D.Denot). o.broken) c.self.view_is ∙ c.requires.whole) (g.met.D.Device.lawful c.self.inside.active) (g.met.D.Device.lawful c.self.inside.spare) (c.open_gate-opened.ensures.images honest)))

pub returns-in-Ok : goal.returns-in-Ok
returns-in-Ok g c =
    subst (λ (o : StoreSeen g.row.D.Denot). IsAdvance g.D.Device.disk o (record (seen_of c.self.inside) { active = c.open_gate-opened.new.device; phase = phases.Opening }) (Ok answers.Moved)) c.self.view_is
    (gate_opened g.D.Device.disk (seen_of c.self.inside) c.open_gate-opened.new.device (ap (λ (o : StoreSeen g.row.D.Denot). o.broken) c.self.view_is ∙ c.requires.whole) (g.met.D.Device.lawful c.self.inside.active) (g.met.D.Device.lawful c.self.inside.spare) (ap (λ (o : StoreSeen g.row.D.Denot). o.phase) c.self.view_is ∙ c.requires.phase)
    c.in-Ok.ensures.one_call c.in-Ok.ensures.write c.in-Ok.ensures.opened c.in-Ok.ensures.images c.in-Ok.ensures.read c.in-Ok.ensures.moments)

pub returns-in-Err : goal.returns-in-Err
returns-in-Err g c =
    failed_by g.D.Device.disk (seen_of c.self.inside) (record (seen_of c.self.inside) { active = c.open_gate-opened.new.device; phase = phases.Opening; broken = true }) c.in-Err.fault c.self.view_is c.broken_by.ensures.broken c.broken_by.ensures.told
    (gate_left g.D.Device.disk (seen_of c.self.inside) c.open_gate-opened.new.device (ap (λ (o : StoreSeen g.row.D.Denot). o.broken) c.self.view_is ∙ c.requires.whole) (g.met.D.Device.lawful c.self.inside.active) (g.met.D.Device.lawful c.self.inside.spare) c.in-Err.fault (ap (λ (o : StoreSeen g.row.D.Denot). o.phase) c.self.view_is ∙ c.requires.phase)
    c.in-Err.ensures.one_call c.in-Err.ensures.images c.in-Err.ensures.moments)
