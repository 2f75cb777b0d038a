use Rattle.std.proofs.Common.{◌+◌, ◌-◌, ◌∙◌, length, take, drop, List, ℕ, refl, sym, ap, subst, Ok, Err, Bool, true, false}
use Rattle.vault_store.specs.declared.phase.Phase.{Phase}
use Rattle.vault_store.specs.declared.phase.Phase.TheVariants as phases
use Rattle.vault_store.specs.declared.phase.Advanced.TheVariants as answers
use Rattle.vault_store.specs.Seen.{StoreSeen}
use Rattle.vault_store.specs.View.{seen_of}
use Rattle.vault_store.specs.Step.{IsAdvance}
use Rattle.vault_device.specs.Disk.{IsWrite}
use Rattle.vault_device.specs.declared.device.Fault.{Fault}
use Rattle.vault_store.specs.Phases.{piece_size, behind_piece}
use Rattle.vault_store.specs.Sound.{IsReached, IsSoundStore}
use Rattle.vault_store.proofs.Renewals.{piece_snapshot}
use Rattle.vault_store.proofs.Renewed.{spare_sound, writes_piece, piece_written, piece_failed, piece_reached}
use Rattle.vault_store.proofs.Failed.{failed_by}
use Rattle.vault_store.proofs.store.Store.write_piece.Goals as goal

pub invariant_of-self : goal.invariant_of-self
invariant_of-self g c =
    subst (λ (p : Phase). IsSoundStore g.D.Device.disk (record (seen_of c.self.inside) { spare = c.write_next-written.new.device; phase = p; broken = c.self.inside.broken })) (sym c.behind_piece-self-inside.ensures)
    (subst (λ (b : Bool). IsSoundStore g.D.Device.disk (record (seen_of c.self.inside) { spare = c.write_next-written.new.device; phase = behind_piece c.args.left; broken = b })) (sym (ap (λ (o : StoreSeen g.row.D.Denot). o.broken) c.self.view_is ∙ c.requires.whole))
    (spare_sound g.D.Device.disk (seen_of c.self.inside) c.write_next-written.new.device c.write_next-written.ensures.one_call.same_honesty c.self.invariant (ap (λ (o : StoreSeen g.row.D.Denot). o.broken) c.self.view_is ∙ c.requires.whole) (phases.Writing c.args.left) (behind_piece c.args.left) false (ap (λ (o : StoreSeen g.row.D.Denot). o.phase) c.self.view_is ∙ c.requires.phase) refl (piece_snapshot c.args.left)
    (piece_reached c.self.inside.generation (seen_of c.self.inside).rest c.args.left (subst (λ (p : Phase). IsReached p c.self.inside.generation (seen_of c.self.inside).rest) (ap (λ (o : StoreSeen g.row.D.Denot). o.phase) c.self.view_is ∙ c.requires.phase) c.self.invariant.reached))
    (λ honest. writes_piece g.D.Device.disk (seen_of c.self.inside) c.write_next-written.new.device (ap (λ (o : StoreSeen g.row.D.Denot). o.broken) c.self.view_is ∙ c.requires.whole) (g.met.D.Device.lawful c.self.inside.active) (g.met.D.Device.lawful c.self.inside.spare) c.args.left (subst (λ (p : Phase). IsReached p c.self.inside.generation (seen_of c.self.inside).rest) (ap (λ (o : StoreSeen g.row.D.Denot). o.phase) c.self.view_is ∙ c.requires.phase) c.self.invariant.reached).1 (subst (λ (l : List ℕ). IsWrite {E = Fault} (length l - c.args.left + 1) (take (piece_size c.args.left) (drop (length l - c.args.left) l)) (Ok tt) (g.D.Device.disk c.self.inside.spare) (g.D.Device.disk c.write_next-written.new.device)) c.bytes_of.ensures (c.in-Ok.ensures.write honest)) (λ x. Unit {0}) (λ x closed. tt))))

pub returns-in-Ok : goal.returns-in-Ok
returns-in-Ok g c =
    subst (λ (p : Phase). IsAdvance g.D.Device.disk c.args.self.now (record (seen_of c.self.inside) { spare = c.write_next-written.new.device; phase = p }) (Ok answers.Moved)) (sym c.behind_piece-self-inside.ensures)
    (subst (λ (o : StoreSeen g.row.D.Denot). IsAdvance g.D.Device.disk o (record (seen_of c.self.inside) { spare = c.write_next-written.new.device; phase = behind_piece c.args.left }) (Ok answers.Moved)) c.self.view_is
    (piece_written g.D.Device.disk (seen_of c.self.inside) c.write_next-written.new.device (ap (λ (o : StoreSeen g.row.D.Denot). o.broken) c.self.view_is ∙ c.requires.whole) (g.met.D.Device.lawful c.self.inside.active) (g.met.D.Device.lawful c.self.inside.spare) c.args.left
    (subst (λ (p : Phase). IsReached p c.self.inside.generation (seen_of c.self.inside).rest) (ap (λ (o : StoreSeen g.row.D.Denot). o.phase) c.self.view_is ∙ c.requires.phase) c.self.invariant.reached).1 (ap (λ (o : StoreSeen g.row.D.Denot). o.phase) c.self.view_is ∙ c.requires.phase) c.in-Ok.ensures.one_call (λ honest. (subst (λ (l : List ℕ). IsWrite {E = Fault} (length l - c.args.left + 1) (take (piece_size c.args.left) (drop (length l - c.args.left) l)) (Ok tt) (g.D.Device.disk c.self.inside.spare) (g.D.Device.disk c.write_next-written.new.device)) c.bytes_of.ensures (c.in-Ok.ensures.write honest)))))

pub returns-in-Err : goal.returns-in-Err
returns-in-Err g c =
    subst (λ (p : Phase). IsAdvance g.D.Device.disk c.args.self.now (record (seen_of c.self.inside) { spare = c.write_next-written.new.device; phase = p; broken = c.broken_by.new.broken }) c.broken_by.result) (sym c.behind_piece-self-inside.ensures)
    (failed_by g.D.Device.disk (seen_of c.self.inside) (record (seen_of c.self.inside) { spare = c.write_next-written.new.device; phase = behind_piece c.args.left; broken = true }) c.in-Err.fault c.self.view_is c.broken_by.ensures.broken c.broken_by.ensures.told
    (piece_failed g.D.Device.disk (seen_of c.self.inside) c.write_next-written.new.device (ap (λ (o : StoreSeen g.row.D.Denot). o.broken) c.self.view_is ∙ c.requires.whole) (g.met.D.Device.lawful c.self.inside.active) (g.met.D.Device.lawful c.self.inside.spare) c.args.left
    (subst (λ (p : Phase). IsReached p c.self.inside.generation (seen_of c.self.inside).rest) (ap (λ (o : StoreSeen g.row.D.Denot). o.phase) c.self.view_is ∙ c.requires.phase) c.self.invariant.reached).1 c.in-Err.fault (ap (λ (o : StoreSeen g.row.D.Denot). o.phase) c.self.view_is ∙ c.requires.phase) c.in-Err.ensures.one_call (λ honest. (subst (λ (l : List ℕ). IsWrite (length l - c.args.left + 1) (take (piece_size c.args.left) (drop (length l - c.args.left) l)) (Err c.in-Err.fault) (g.D.Device.disk c.self.inside.spare) (g.D.Device.disk c.write_next-written.new.device)) c.bytes_of.ensures (c.in-Err.ensures.write honest)))))
