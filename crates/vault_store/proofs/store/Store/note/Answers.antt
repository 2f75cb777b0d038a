use Rattle.std.proofs.Common.{IsTrue, List, ℕ, subst, sym, arith}
use Rattle.vault_journal.proofs.Sizes.{records_are_short}
use Rattle.vault_store.specs.Companions.{IsOfOneVault}
use Rattle.vault_store.specs.Seen.{StoreSeen, Keeps, has_room}
use Rattle.vault_store.specs.View.{seen_of}
use Rattle.vault_store.specs.State.{with_effect}
use Rattle.vault_store.proofs.Kept.{note_kept}
use Rattle.vault_store.proofs.Sounds.{room_is, note_sound}
use Rattle.vault_store.proofs.store.Store.note.Goals as goal

pub push_effect-requires-clause-room : goal.push_effect-requires-clause-room
push_effect-requires-clause-room g c =
    let room = room_is (seen_of c.self.inside) (subst (λ (o : StoreSeen g.row.D.Denot). IsTrue (has_room o)) (sym c.self.view_is) c.requires.room) in
    omega (arith, room.0, records_are_short c.args.effect.now c.requires.has)

pub invariant_of-self : goal.invariant_of-self
invariant_of-self g c =
    let room = room_is (seen_of c.self.inside) (subst (λ (o : StoreSeen g.row.D.Denot). IsTrue (has_room o)) (sym c.self.view_is) c.requires.room) in
    note_sound g.D.Device.disk (seen_of c.self.inside) c.push_effect.new.self room.1 c.self.invariant

pub returns-clause-kept : goal.returns-clause-kept
returns-clause-kept g c s next keeps e =
    subst (λ (bytes : List ℕ). Keeps g.D.Device.disk (record (seen_of c.self.inside) { buffer = bytes }) (with_effect s c.args.effect.now next)) (sym c.push_effect.ensures)
    (note_kept g.D.Device.disk (seen_of c.self.inside) s c.args.effect.now next c.requires.has (subst (λ (o : StoreSeen g.row.D.Denot). Keeps g.D.Device.disk o s) (sym c.self.view_is) keeps) e)

pub returns-clause-one_vault : goal.returns-clause-one_vault
returns-clause-one_vault g c = λ one_vault. subst (λ (o : StoreSeen g.row.D.Denot). IsOfOneVault g.D.Device.disk o) (sym c.self.view_is) one_vault
