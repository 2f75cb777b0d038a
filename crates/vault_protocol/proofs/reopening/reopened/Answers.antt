use Rattle.std.proofs.Common.{◌∙◌, ap, sym, refl, subst, rules}
use Rattle.vault_device.specs.Memory.{content_of, picked}
use Rattle.vault_device.specs.MemDevice.{MemDisk, disk_of}
use Rattle.group_commit.specs.View.{opened_view}
use Rattle.vault_protocol.proofs.Reopens.{reopens}
use Rattle.vault_protocol.proofs.reopening.reopened.Goals as goal

pub returns-in-Ok : goal.returns-in-Ok
returns-in-Ok g c =
    let d = reopens c.args.vault c.args.pick _ _ c.in-Ok.vault.view.base c.in-Ok.vault.store.version c.in-Ok.vault.store.generation c.in-Ok.vault.store.tail _ c.a_vault_keeps_its_history.ensures.store
    (record { left = c.images_stand_for_the_history.ensures.left; stands = c.images_stand_for_the_history.ensures.stands; gate = c.images_stand_for_the_history.ensures.gate })
    c.files_stand_for_one_vault.ensures.reading
    (sym c.is_broken.ensures ∙ c.if-is_broken.false)
    (c.crash.ensures.shown ∙ ap (λ (d : MemDisk). picked c.args.pick (content_of d.history)) c.into_devices-first.ensures.first)
    (c.crash-2.ensures.shown ∙ ap (λ (d : MemDisk). picked c.args.pick (content_of d.history)) c.into_devices-first.ensures.second)
    (subst (λ (d : MemDisk). (disk_of d).IsImage (disk_of c.crash.new.self).shown) c.into_devices-first.ensures.first c.crash.ensures.image)
    (subst (λ (d : MemDisk). (disk_of d).IsImage (disk_of c.crash-2.new.self).shown) c.into_devices-first.ensures.second c.crash-2.ensures.image)
    (c.in-Ok.ensures.read refl refl) in
    record { view = c.in-Ok.ensures.begins ∙ ap opened_view d.base_is; life = search rules; buffer = c.in-Ok.ensures.buffer; generation = d.generation_is; tail = d.tail_is; cause = tt }
