use Rattle.vault_desk.proofs.Queues.{goes_moved, stays_queued}
use Rattle.vault_desk.proofs.clerk.Clerk.lets_go.Goals as goal

pub returns-clause-goes : goal.returns-clause-goes
returns-clause-goes g c = goes_moved _ _ c.args.kept c.lets_go.result c.lets_go.ensures.came c.lets_go.ensures.goes

pub returns-clause-stays : goal.returns-clause-stays
returns-clause-stays g c = stays_queued _ _ c.args.kept c.lets_go.result c.lets_go.ensures.came c.lets_go.ensures.stays
