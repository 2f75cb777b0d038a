use Rattle.std.proofs.Common.{refl}
use Rattle.vault_device.specs.MemoryLaws.{image_shown}
use Rattle.vault_device.specs.MemDevice.{disk_of}
use Rattle.test_commits.proofs.vault.past.opened.Goals as goal

pub returns : goal.returns
returns g c = λ old past are p.
    c.a_past_goes_on.ensures.goes_on old past p
    (c.in-Ok.ensures.next refl refl old (are.each (disk_of c.args.first).shown (disk_of c.args.second).shown (image_shown c.args.first.history) (image_shown c.args.second.history)))
