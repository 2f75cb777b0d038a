use Rattle.std.proofs.Common.{◌∙◌, ap, subst, Ok, true}
use Rattle.vault_store.specs.declared.phase.Phase.TheVariants as phases
use Rattle.vault_store.specs.declared.phase.Advanced.TheVariants as answers
use Rattle.vault_store.specs.Seen.{StoreSeen}
use Rattle.vault_store.specs.View.{seen_of}
use Rattle.vault_store.specs.Step.{IsAdvance}
use Rattle.vault_store.proofs.Renewed.{head_opened, head_unopened}
use Rattle.vault_store.proofs.Failed.{failed_by}
use Rattle.vault_store.proofs.store.Store.open_head.Goals as goal

pub returns-in-Ok : goal.returns-in-Ok
returns-in-Ok g c =
    subst (λ (o : StoreSeen g.row.D.Denot). IsAdvance g.D.Device.disk o (record (seen_of c.self.inside) { spare = c.open_gate-opened.new.device; phase = phases.SnapOpening }) (Ok answers.Moved)) c.self.view_is
    (head_opened g.D.Device.disk (seen_of c.self.inside) c.open_gate-opened.new.device (ap (λ (o : StoreSeen g.row.D.Denot). o.broken) c.self.view_is ∙ c.requires.whole) (g.met.D.Device.lawful c.self.inside.active) (g.met.D.Device.lawful c.self.inside.spare)
    (ap (λ (o : StoreSeen g.row.D.Denot). o.phase) c.self.view_is ∙ c.requires.phase) c.in-Ok.ensures.one_call c.in-Ok.ensures.write c.in-Ok.ensures.opened c.in-Ok.ensures.images c.in-Ok.ensures.read c.in-Ok.ensures.moments)

pub returns-in-Err : goal.returns-in-Err
returns-in-Err g c =
    failed_by g.D.Device.disk (seen_of c.self.inside) (record (seen_of c.self.inside) { spare = c.open_gate-opened.new.device; phase = phases.SnapOpening; broken = true }) c.in-Err.fault c.self.view_is c.broken_by.ensures.broken c.broken_by.ensures.told
    (head_unopened g.D.Device.disk (seen_of c.self.inside) c.open_gate-opened.new.device (ap (λ (o : StoreSeen g.row.D.Denot). o.broken) c.self.view_is ∙ c.requires.whole) (g.met.D.Device.lawful c.self.inside.active) (g.met.D.Device.lawful c.self.inside.spare)
    c.in-Err.fault (ap (λ (o : StoreSeen g.row.D.Denot). o.phase) c.self.view_is ∙ c.requires.phase) c.in-Err.ensures.one_call c.in-Err.ensures.images c.in-Err.ensures.moments)
