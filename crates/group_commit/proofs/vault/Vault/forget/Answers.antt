use Rattle.std.proofs.Common.{rules, inr}
use Rattle.group_commit.specs.World.{Forget}
use Rattle.group_commit.specs.Inside.{seen_of}
use Rattle.group_commit.proofs.Gone.{gone_forgotten}
use Rattle.group_commit.proofs.Tickets.{open_here, forget_kept}
use Rattle.group_commit.proofs.vault.Vault.forget.Goals as goal

pub invariant_of-self : goal.invariant_of-self
invariant_of-self g c = (
  forget_kept g.D.Device.disk (seen_of c.self.inside) c.args.self.now c.self.inside.book c.args.ticket c.in-Some.position c.close.new.self c.self.view_is c.in-Some.ensures.some c.close.ensures c.self.invariant.0,
  gone_forgotten c.self.inside.bygone.items c.self.inside.kept c.close.new.self c.in-Some.position c.self.inside.retired c.self.inside.told c.close.ensures
      (open_here (seen_of c.self.inside) c.args.self.now c.args.ticket c.in-Some.position c.self.view_is c.in-Some.ensures.some) c.self.invariant.1,
)

pub returns-clause-answered : goal.returns-clause-answered
returns-clause-answered g c = inr (Forget c.args.ticket.position, record { allowed = c.in-Some.ensures.some.0.1; made = search rules; life = search rules })
