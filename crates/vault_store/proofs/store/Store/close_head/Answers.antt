use Rattle.std.proofs.Common.{◌∙◌, ap, subst, Ok, true}
use Rattle.vault_store.specs.declared.phase.Phase.TheVariants as phases
use Rattle.vault_store.specs.declared.phase.Advanced.TheVariants as answers
use Rattle.vault_store.specs.Seen.{StoreSeen}
use Rattle.vault_store.specs.View.{seen_of}
use Rattle.vault_store.specs.Step.{IsAdvance}
use Rattle.vault_store.proofs.Renewed.{head_shut, head_closed, head_failed}
use Rattle.vault_store.proofs.Failed.{failed_by}
use Rattle.vault_store.proofs.store.Store.close_head.Goals as goal

pub returns-then-self-clause-advance : goal.returns-then-self-clause-advance
returns-then-self-clause-advance g c =
    subst (λ (o : StoreSeen g.row.D.Denot). IsAdvance g.D.Device.disk o (record (seen_of c.self.inside) { phase = phases.Closing }) (Ok answers.Moved)) c.self.view_is
    (head_shut g.D.Device.disk (seen_of c.self.inside) (ap (λ (o : StoreSeen g.row.D.Denot). o.broken) c.self.view_is ∙ c.requires.whole) (ap (λ (o : StoreSeen g.row.D.Denot). o.phase) c.self.view_is ∙ c.requires.phase) c.if-self.true
    (g.met.D.Device.lawful c.self.inside.active) (g.met.D.Device.lawful c.self.inside.spare))

pub returns-in-Ok-clause-advance : goal.returns-in-Ok-clause-advance
returns-in-Ok-clause-advance g c =
    subst (λ (o : StoreSeen g.row.D.Denot). IsAdvance g.D.Device.disk o (record (seen_of c.self.inside) { spare = c.write_shut-closed.new.device; phase = phases.Closing }) (Ok answers.Moved)) c.self.view_is
    (head_closed g.D.Device.disk (seen_of c.self.inside) c.write_shut-closed.new.device (ap (λ (o : StoreSeen g.row.D.Denot). o.broken) c.self.view_is ∙ c.requires.whole) (g.met.D.Device.lawful c.self.inside.active) (g.met.D.Device.lawful c.self.inside.spare)
    (ap (λ (o : StoreSeen g.row.D.Denot). o.phase) c.self.view_is ∙ c.requires.phase) c.if-self.false c.in-Ok.ensures.one_call c.in-Ok.ensures.write)

pub returns-in-Err-clause-advance : goal.returns-in-Err-clause-advance
returns-in-Err-clause-advance g c =
    failed_by g.D.Device.disk (seen_of c.self.inside) (record (seen_of c.self.inside) { spare = c.write_shut-closed.new.device; phase = phases.Closing; broken = true }) c.in-Err.fault c.self.view_is c.broken_by.ensures.broken c.broken_by.ensures.told
    (head_failed g.D.Device.disk (seen_of c.self.inside) c.write_shut-closed.new.device (ap (λ (o : StoreSeen g.row.D.Denot). o.broken) c.self.view_is ∙ c.requires.whole) (g.met.D.Device.lawful c.self.inside.active) (g.met.D.Device.lawful c.self.inside.spare)
    c.in-Err.fault (ap (λ (o : StoreSeen g.row.D.Denot). o.phase) c.self.view_is ∙ c.requires.phase) c.if-self.false c.in-Err.ensures.one_call c.in-Err.ensures.write)
