use Rattle.std.proofs.Common.{ℕ, List, [], ◌∷◌, inl, refl, sym, ◌∙◌}
use Rattle.vault_device.specs.Memory.{Event, IsImageOf, WasImageOf}
use Rattle.vault_device.specs.MemDevice.{MemDisk, disk_of}
use Rattle.vault_store.specs.Seen.{first_of, second_of}
use Rattle.group_commit.proofs.Openings.{pumped_devices}
use Rattle.test_commits.proofs.vault.past.stopped_in_a_pump.Goals as goal

was_now : (events : List Event) (t : ℕ) (x : List ℕ) → IsImageOf events x → WasImageOf events t x
was_now [] t x image = image
was_now (event ∷ earlier) t x image = inl image

pub returns : goal.returns
returns g c = λ past p.
    c.opened.ensures c.args.vault past
    (c.crashed-first.ensures c.args.vault
    (pumped_devices disk_of c.args.vault c.pump.new.self c.into_devices-first.result.0 c.into_devices-first.result.1 (record { first = refl; second = refl }) (record { first = refl; second = refl }) c.into_devices-first.ensures.first c.into_devices-first.ensures.second
    (c.pump.ensures.stops (sym c.is_broken.ensures ∙ c.if-is_broken.false))
    (λ x. was_now (first_of c.pump.new.self.store).history (disk_of (first_of c.args.vault.store)).moment x)
    (λ y. was_now (second_of c.pump.new.self.store).history (disk_of (second_of c.args.vault.store)).moment y))) p
