use Rattle.std.proofs.Common.{◌+◌, ◌∙◌, length, List, [], ℕ, sym, ap, subst, Ok, Bool, true, false}
use Rattle.vault_store.specs.declared.opening.File.{File}
use Rattle.vault_store.specs.declared.phase.Phase.TheVariants as phases
use Rattle.vault_store.specs.declared.phase.Advanced.TheVariants as answers
use Rattle.vault_store.specs.Seen.{StoreSeen, other}
use Rattle.vault_store.specs.View.{seen_of}
use Rattle.vault_store.specs.Sound.{IsSoundStore}
use Rattle.vault_store.specs.Step.{IsAdvance}
use Rattle.vault_store.proofs.Renewed.{head_unsettled}
use Rattle.vault_store.proofs.Exchanged.{exchanged_sound, head_settled}
use Rattle.vault_store.proofs.Failed.{failed_by}
use Rattle.vault_store.proofs.store.Store.settle_head.Goals as goal
use Rattle.vault_format.specs.Snapshot.{current_version}

pub invariant_of-self : goal.invariant_of-self
invariant_of-self g c =
    subst (λ (l : List ℕ). IsSoundStore g.D.Device.disk (record { active = c.swap.new.x; spare = c.swap.new.y; which = c.other-self-inside.result; buffer = c.self.inside.frame; sealed = 0; version = current_version; generation = c.self.inside.generation + 1; tail = length c.bytes_of.result.now; journal_length = 0; phase = phases.Idle; broken = c.self.inside.broken; shut = false; rest = l })) (sym c.set_aside.ensures)
    (subst (λ (a : g.row.D.Denot). IsSoundStore g.D.Device.disk (record { active = a; spare = c.swap.new.y; which = c.other-self-inside.result; buffer = c.self.inside.frame; sealed = 0; version = current_version; generation = c.self.inside.generation + 1; tail = length c.bytes_of.result.now; journal_length = 0; phase = phases.Idle; broken = c.self.inside.broken; shut = false; rest = [] })) (sym c.swap.ensures.x_after)
    (subst (λ (b : g.row.D.Denot). IsSoundStore g.D.Device.disk (record { active = c.settle_gate.new.device; spare = b; which = c.other-self-inside.result; buffer = c.self.inside.frame; sealed = 0; version = current_version; generation = c.self.inside.generation + 1; tail = length c.bytes_of.result.now; journal_length = 0; phase = phases.Idle; broken = c.self.inside.broken; shut = false; rest = [] })) (sym c.swap.ensures.y_after)
    (subst (λ (w : File). IsSoundStore g.D.Device.disk (record { active = c.settle_gate.new.device; spare = c.self.inside.active; which = w; buffer = c.self.inside.frame; sealed = 0; version = current_version; generation = c.self.inside.generation + 1; tail = length c.bytes_of.result.now; journal_length = 0; phase = phases.Idle; broken = c.self.inside.broken; shut = false; rest = [] })) (sym c.other-self-inside.ensures)
    (subst (λ (l : List ℕ). IsSoundStore g.D.Device.disk (record { active = c.settle_gate.new.device; spare = c.self.inside.active; which = (other c.self.inside.which); buffer = c.self.inside.frame; sealed = 0; version = current_version; generation = c.self.inside.generation + 1; tail = length l; journal_length = 0; phase = phases.Idle; broken = c.self.inside.broken; shut = false; rest = [] })) (sym c.bytes_of.ensures)
    (subst (λ (b : Bool). IsSoundStore g.D.Device.disk (record { active = c.settle_gate.new.device; spare = c.self.inside.active; which = (other c.self.inside.which); buffer = c.self.inside.frame; sealed = 0; version = current_version; generation = c.self.inside.generation + 1; tail = length (seen_of c.self.inside).rest; journal_length = 0; phase = phases.Idle; broken = b; shut = false; rest = [] })) (sym (ap (λ (o : StoreSeen g.row.D.Denot). o.broken) c.self.view_is ∙ c.requires.whole))
    (exchanged_sound g.D.Device.disk (seen_of c.self.inside) c.settle_gate.new.device (ap (λ (o : StoreSeen g.row.D.Denot). o.broken) c.self.view_is ∙ c.requires.whole) (ap (λ (o : StoreSeen g.row.D.Denot). o.phase) c.self.view_is ∙ c.requires.phase) (g.met.D.Device.lawful c.self.inside.active) (g.met.D.Device.lawful c.self.inside.spare) c.in-Ok.ensures.one_call c.in-Ok.ensures.sync c.self.invariant))))))

pub returns-in-Ok : goal.returns-in-Ok
returns-in-Ok g c =
    subst (λ (l : List ℕ). IsAdvance g.D.Device.disk c.args.self.now (record { active = c.swap.new.x; spare = c.swap.new.y; which = c.other-self-inside.result; buffer = c.self.inside.frame; sealed = 0; version = current_version; generation = c.self.inside.generation + 1; tail = length c.bytes_of.result.now; journal_length = 0; phase = phases.Idle; broken = c.self.inside.broken; shut = false; rest = l }) (Ok answers.Settled)) (sym c.set_aside.ensures)
    (subst (λ (a : g.row.D.Denot). IsAdvance g.D.Device.disk c.args.self.now (record { active = a; spare = c.swap.new.y; which = c.other-self-inside.result; buffer = c.self.inside.frame; sealed = 0; version = current_version; generation = c.self.inside.generation + 1; tail = length c.bytes_of.result.now; journal_length = 0; phase = phases.Idle; broken = c.self.inside.broken; shut = false; rest = [] }) (Ok answers.Settled)) (sym c.swap.ensures.x_after)
    (subst (λ (b : g.row.D.Denot). IsAdvance g.D.Device.disk c.args.self.now (record { active = c.settle_gate.new.device; spare = b; which = c.other-self-inside.result; buffer = c.self.inside.frame; sealed = 0; version = current_version; generation = c.self.inside.generation + 1; tail = length c.bytes_of.result.now; journal_length = 0; phase = phases.Idle; broken = c.self.inside.broken; shut = false; rest = [] }) (Ok answers.Settled)) (sym c.swap.ensures.y_after)
    (subst (λ (w : File). IsAdvance g.D.Device.disk c.args.self.now (record { active = c.settle_gate.new.device; spare = c.self.inside.active; which = w; buffer = c.self.inside.frame; sealed = 0; version = current_version; generation = c.self.inside.generation + 1; tail = length c.bytes_of.result.now; journal_length = 0; phase = phases.Idle; broken = c.self.inside.broken; shut = false; rest = [] }) (Ok answers.Settled)) (sym c.other-self-inside.ensures)
    (subst (λ (l : List ℕ). IsAdvance g.D.Device.disk c.args.self.now (record { active = c.settle_gate.new.device; spare = c.self.inside.active; which = (other c.self.inside.which); buffer = c.self.inside.frame; sealed = 0; version = current_version; generation = c.self.inside.generation + 1; tail = length l; journal_length = 0; phase = phases.Idle; broken = c.self.inside.broken; shut = false; rest = [] }) (Ok answers.Settled)) (sym c.bytes_of.ensures)
    (subst (λ (o : StoreSeen g.row.D.Denot). IsAdvance g.D.Device.disk o (record { active = c.settle_gate.new.device; spare = c.self.inside.active; which = (other c.self.inside.which); buffer = c.self.inside.frame; sealed = 0; version = current_version; generation = c.self.inside.generation + 1; tail = length (seen_of c.self.inside).rest; journal_length = 0; phase = phases.Idle; broken = c.self.inside.broken; shut = false; rest = [] }) (Ok answers.Settled)) c.self.view_is
    (head_settled g.D.Device.disk (seen_of c.self.inside) c.settle_gate.new.device (ap (λ (o : StoreSeen g.row.D.Denot). o.broken) c.self.view_is ∙ c.requires.whole) (ap (λ (o : StoreSeen g.row.D.Denot). o.phase) c.self.view_is ∙ c.requires.phase) (g.met.D.Device.lawful c.self.inside.active) (g.met.D.Device.lawful c.self.inside.spare) c.in-Ok.ensures.one_call c.in-Ok.ensures.sync c.in-Ok.ensures.moments))))))

pub returns-in-Err : goal.returns-in-Err
returns-in-Err g c =
    failed_by g.D.Device.disk (seen_of c.self.inside) (record (seen_of c.self.inside) { spare = c.settle_gate.new.device; broken = true }) c.in-Err.fault c.self.view_is c.broken_by.ensures.broken c.broken_by.ensures.told
    (head_unsettled g.D.Device.disk (seen_of c.self.inside) c.settle_gate.new.device (ap (λ (o : StoreSeen g.row.D.Denot). o.broken) c.self.view_is ∙ c.requires.whole) (g.met.D.Device.lawful c.self.inside.active) (g.met.D.Device.lawful c.self.inside.spare)
    c.in-Err.fault (ap (λ (o : StoreSeen g.row.D.Denot). o.phase) c.self.view_is ∙ c.requires.phase) c.in-Err.ensures.one_call c.in-Err.ensures.sync c.in-Err.ensures.moments)
