use Rattle.std.proofs.Common.{rules, ◌≡◌, ◌+◌, ◌<◌, ◌^◌, List, [], ℕ, sym, ◌∙◌, ap, subst}
use Rattle.vault_state.specs.Vault.{durable}
use Rattle.vault_store.specs.declared.phase.Phase.TheVariants.{Idle, Start}
use Rattle.vault_format.specs.Files.{behind_gate}
use Rattle.vault_store.specs.Companions.{IsOfOneVault}
use Rattle.vault_store.specs.Seen.{StoreSeen, Keeps, started_seen}
use Rattle.vault_store.specs.State.{started}
use Rattle.vault_store.specs.View.{seen_of}
use Rattle.vault_store.specs.Sound.{IsSoundStore}
use Rattle.vault_store.proofs.Exchanged.{started_kept, started_one, started_sound}
use Rattle.vault_store.proofs.store.Store.start_snapshot.Goals as goal

pub invariant_of-self : goal.invariant_of-self
invariant_of-self g c = c.self.invariant

pub invariant_of-self-2 : goal.invariant_of-self-2
invariant_of-self-2 g c =
    let is : c.self.inside.phase ≡ Idle = search rules in
    let fits : c.self.inside.generation + 1 < 2 ^ 64 = search rules in
    subst (λ (l : List ℕ). IsSoundStore g.D.Device.disk (record (seen_of c.self.inside) { buffer = c.clear.new.self; phase = Start; rest = l })) (sym c.in_ok-rest.ensures)
    (subst (λ (l : List ℕ). IsSoundStore g.D.Device.disk (record (seen_of c.self.inside) { buffer = l; phase = Start; rest = behind_gate (c.self.inside.generation + 1) (durable c.args.book.now) })) (sym c.clear.ensures)
    (started_sound g.D.Device.disk (seen_of c.self.inside) (durable c.args.book.now) is c.if-self.false fits c.requires.spelled c.self.invariant))

pub returns-clause-yes : goal.returns-clause-yes
returns-clause-yes g c = λ yes.
    ap (λ (l : List ℕ). record (seen_of c.self.inside) { buffer = l; phase = Start; rest = c.in_ok-rest.rest.items }) c.clear.ensures
    ∙ ap (λ (l : List ℕ). record (seen_of c.self.inside) { buffer = []; phase = Start; rest = l }) c.in_ok-rest.ensures
    ∙ ap (λ (o : StoreSeen g.row.D.Denot). started_seen o (durable c.args.book.now)) c.self.view_is

pub returns-clause-kept : goal.returns-clause-kept
returns-clause-kept g c = λ s yes keeps noted.
    let is : c.self.inside.phase ≡ Idle = search rules in
    let fits : c.self.inside.generation + 1 < 2 ^ 64 = search rules in
    subst (λ (l : List ℕ). Keeps g.D.Device.disk (record (seen_of c.self.inside) { buffer = c.clear.new.self; phase = Start; rest = l }) (started s)) (sym c.in_ok-rest.ensures)
    (subst (λ (l : List ℕ). Keeps g.D.Device.disk (record (seen_of c.self.inside) { buffer = l; phase = Start; rest = behind_gate (c.self.inside.generation + 1) (durable c.args.book.now) }) (started s)) (sym c.clear.ensures)
    (started_kept g.D.Device.disk (seen_of c.self.inside) (durable c.args.book.now) is c.if-self.false fits s (subst (λ (o : StoreSeen g.row.D.Denot). Keeps g.D.Device.disk o s) (sym c.self.view_is) keeps) noted))

pub returns-clause-one_vault : goal.returns-clause-one_vault
returns-clause-one_vault g c = λ yes one_vault.
    let is : c.self.inside.phase ≡ Idle = search rules in
    let fits : c.self.inside.generation + 1 < 2 ^ 64 = search rules in
    subst (λ (l : List ℕ). IsOfOneVault g.D.Device.disk (record (seen_of c.self.inside) { buffer = c.clear.new.self; phase = Start; rest = l })) (sym c.in_ok-rest.ensures)
    (started_one g.D.Device.disk (seen_of c.self.inside) (durable c.args.book.now) is c.if-self.false fits (subst (λ (o : StoreSeen g.row.D.Denot). IsOfOneVault g.D.Device.disk o) (sym c.self.view_is) one_vault))
