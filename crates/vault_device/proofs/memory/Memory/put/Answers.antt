use Rattle.std.proofs.Common.{rules}
use Rattle.vault_device.proofs.Since.{put_kept}
use Rattle.vault_device.proofs.memory.Memory.put.Goals as goal

pub invariant_of-self-2 : goal.invariant_of-self-2
invariant_of-self-2 g c = put_kept c.self.inside _ c.args.at c.in_ok-text.text c.self.invariant (search rules) (search rules) (search rules) (search rules) (search rules) (search rules) (search rules) (search rules)
