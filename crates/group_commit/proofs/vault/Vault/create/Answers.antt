use Rattle.std.proofs.Common.{[], sym, subst}
use Rattle.vault_store.specs.Calls.{IsCalled}
use Rattle.vault_store.specs.Companions.{IsOfOneVault}
use Rattle.vault_store.specs.Create.{new_file, IsFilled, StopsInCreation, PassesInCreation}
use Rattle.vault_store.specs.Seen.{StoreSeen, first_of, second_of}
use Rattle.group_commit.proofs.vault.Vault.create.Goals as goal

pub returns-in-Ok-create-clause-stops : goal.returns-in-Ok-create-clause-stops
returns-in-Ok-create-clause-stops g c =
    let disk = g.D.Device.disk in
    subst (λ (s : StoreSeen g.row.D.Denot). StopsInCreation (disk c.args.first) (disk c.args.second) (disk (first_of s)) (disk (second_of s))) (sym c.over.ensures.store) c.in-Ok-create.ensures.stops

pub returns-in-Ok-create-clause-one_vault : goal.returns-in-Ok-create-clause-one_vault
returns-in-Ok-create-clause-one_vault g c = subst (λ (s : StoreSeen g.row.D.Denot). IsOfOneVault g.D.Device.disk s) (sym c.over.ensures.store) c.in-Ok-create.ensures.one_vault

pub returns-in-Ok-create-clause-passes : goal.returns-in-Ok-create-clause-passes
returns-in-Ok-create-clause-passes g c =
    let disk = g.D.Device.disk in
    subst (λ (s : StoreSeen g.row.D.Denot). PassesInCreation (disk c.args.first) (disk c.args.second) (disk (first_of s)) (disk (second_of s))) (sym c.over.ensures.store) c.in-Ok-create.ensures.passes

pub returns-in-Ok-create-clause-file : goal.returns-in-Ok-create-clause-file
returns-in-Ok-create-clause-file g c = λ honest.
    let disk = g.D.Device.disk in
    subst (λ (s : StoreSeen g.row.D.Denot). IsFilled (disk c.args.first) (disk (first_of s)) new_file) (sym c.over.ensures.store) (c.in-Ok-create.ensures.file honest)

pub returns-in-Ok-create-clause-empty : goal.returns-in-Ok-create-clause-empty
returns-in-Ok-create-clause-empty g c = λ honest.
    let disk = g.D.Device.disk in
    subst (λ (s : StoreSeen g.row.D.Denot). IsFilled (disk c.args.second) (disk (second_of s)) []) (sym c.over.ensures.store) (c.in-Ok-create.ensures.empty honest)

pub returns-in-Ok-create-clause-called : goal.returns-in-Ok-create-clause-called
returns-in-Ok-create-clause-called g c =
    let disk = g.D.Device.disk in
    subst (λ (s : StoreSeen g.row.D.Denot). IsCalled (disk c.args.first) (disk (first_of s)) × IsCalled (disk c.args.second) (disk (second_of s))) (sym c.over.ensures.store) c.in-Ok-create.ensures.called
