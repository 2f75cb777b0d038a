use Rattle.std.proofs.Common.{rules}
use Rattle.vault_desk.proofs.Queues.{kept_queued}
use Rattle.vault_desk.proofs.clerk.Clerk.keep.Goals as goal

pub returns : goal.returns
returns g c = record { kept = kept_queued _ _ _ _ _ c.keep.result (search rules) c.keep.ensures.came c.keep.ensures.kept }
