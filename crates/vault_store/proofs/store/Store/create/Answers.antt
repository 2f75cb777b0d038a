use Rattle.std.proofs.Common.{List, [], ℕ, sym, subst, false}
use Rattle.vault_state.specs.Vault.{new_vault}
use Rattle.vault_store.specs.declared.opening.File.TheVariants.{First}
use Rattle.vault_store.specs.declared.phase.Phase.TheVariants.{Idle}
use Rattle.vault_store.specs.State.{at_rest}
use Rattle.vault_store.specs.Seen.{Keeps}
use Rattle.vault_store.specs.Sound.{IsSoundStore}
use Rattle.vault_store.proofs.New.{new_sound, new_kept, new_one}
use Rattle.vault_store.proofs.Creating.{stops_in_creation, passes_in_creation}
use Rattle.vault_store.proofs.store.Store.create.Goals as goal
use Rattle.vault_format.specs.Snapshot.{current_version}

pub invariant_of-result : goal.invariant_of-result
invariant_of-result g c =
    subst (λ (bytes : List ℕ). IsSoundStore g.D.Device.disk (record { active = c.make.new.first; spare = c.make.new.second; which = First; buffer = bytes; sealed = 0; version = current_version; generation = 1; tail = 34; journal_length = 0; phase = Idle; broken = false; shut = false; rest = [] })) (sym c.in-Ok.ensures.frame)
    (new_sound g.D.Device.disk c.args.first c.args.second c.make.new.first c.make.new.second c.make.ensures.first.same_honesty c.in-Ok.ensures.file c.make.ensures.second.same_honesty c.in-Ok.ensures.empty)

pub returns-in-Ok-clause-kept : goal.returns-in-Ok-clause-kept
returns-in-Ok-clause-kept g c =
    subst (λ (bytes : List ℕ). Keeps g.D.Device.disk (record { active = c.make.new.first; spare = c.make.new.second; which = First; buffer = bytes; sealed = 0; version = current_version; generation = 1; tail = 34; journal_length = 0; phase = Idle; broken = false; shut = false; rest = [] }) (at_rest new_vault)) (sym c.in-Ok.ensures.frame)
    (new_kept g.D.Device.disk c.args.first c.args.second c.make.new.first c.make.new.second c.make.ensures.first.same_honesty c.in-Ok.ensures.file c.make.ensures.second.same_honesty c.in-Ok.ensures.empty)

pub returns-in-Ok-clause-stops : goal.returns-in-Ok-clause-stops
returns-in-Ok-clause-stops g c =
    stops_in_creation (g.D.Device.disk c.args.first) (g.D.Device.disk c.args.second) (g.D.Device.disk c.make.new.first) (g.D.Device.disk c.make.new.second) c.make.ensures.made c.make.ensures.left

pub returns-in-Err-clause-refused_stops : goal.returns-in-Err-clause-refused_stops
returns-in-Err-clause-refused_stops g c =
    stops_in_creation (g.D.Device.disk c.args.first) (g.D.Device.disk c.args.second) (g.D.Device.disk c.make.new.first) (g.D.Device.disk c.make.new.second) c.make.ensures.made c.make.ensures.left

pub returns-in-Ok-clause-one_vault : goal.returns-in-Ok-clause-one_vault
returns-in-Ok-clause-one_vault g c =
    new_one g.D.Device.disk c.args.first c.args.second c.make.new.first c.make.new.second c.make.ensures.first.same_honesty c.in-Ok.ensures.file c.make.ensures.second.same_honesty c.in-Ok.ensures.empty

pub returns-in-Ok-clause-passes : goal.returns-in-Ok-clause-passes
returns-in-Ok-clause-passes g c = passes_in_creation (g.D.Device.disk c.args.first) (g.D.Device.disk c.args.second) (g.D.Device.disk c.make.new.first) (g.D.Device.disk c.make.new.second) c.make.ensures.left

pub returns-in-Err-clause-refused_passes : goal.returns-in-Err-clause-refused_passes
returns-in-Err-clause-refused_passes g c = passes_in_creation (g.D.Device.disk c.args.first) (g.D.Device.disk c.args.second) (g.D.Device.disk c.make.new.first) (g.D.Device.disk c.make.new.second) c.make.ensures.left
