use Rattle.std.proofs.Common.{rules}
use Rattle.vault_device.proofs.Since.{crash_kept}
use Rattle.vault_device.proofs.memory.Memory.crash.Goals as goal

pub invariant_of-self : goal.invariant_of-self
invariant_of-self g c =
    crash_kept c.args.pick c.self.inside _ c.deref.result.now c.deref-2.result.now c.self.invariant c.leave.ensures.bytes c.deref.ensures.value c.deref-2.ensures.value (search rules) (search rules) (search rules) (search rules) (search rules)
