use Rattle.std.proofs.Common.{◌≡◌, ◌∙◌, List, ap, sym, subst}
use Rattle.vault_device.specs.Memory.{Event, content_of, picked, after_crash, IsImageOf}
use Rattle.vault_device.specs.MemDevice.{MemDisk}
use Rattle.vault_device.proofs.Done.{image_picked, shown_picked}
use Rattle.vault_device.proofs.mem_device.MemDevice.crash.Goals as goal

pub returns-clause-image : goal.returns-clause-image
returns-clause-image g c =
    let is : (content_of c.crash.new.self).shown ≡ picked c.args.pick (content_of c.args.self.now.history) =
    ap (λ (h : List Event). (content_of h).shown) (c.crash.ensures ∙ ap (λ (d : MemDisk). after_crash c.args.pick d.history) c.self.view_is) ∙ shown_picked c.args.pick c.args.self.now.history in
    subst (IsImageOf c.args.self.now.history) (sym is) (image_picked c.args.pick c.args.self.now.history)
