use Rattle.std.proofs.Common.{◌≡◌, ◌<◌, arith}
use Rattle.group_commit.specs.Inside.{seen_of}
use Rattle.group_commit.proofs.Gone.{gone_told}
use Rattle.group_commit.proofs.Tickets.{open_here, tell_kept, one_more_fits, tells}
use Rattle.group_commit.proofs.Nexts.{telling_is_answered}
use Rattle.group_commit.proofs.vault.Vault.redeem.Goals as goal

pub overflow_add-self : goal.overflow_add-self
overflow_add-self g c =
    let fits = one_more_fits g.D.Device.disk (seen_of c.self.inside) c.args.self.now c.self.inside.book c.args.ticket c.in-Some.position c.self.view_is c.in-Some.ensures.some c.self.invariant.0 in
    omega arith

pub invariant_of-self : goal.invariant_of-self
invariant_of-self g c =
    let below : c.args.ticket.position < c.self.inside.settled = (let p : c.position.result ≡ c.args.ticket.position = c.position.ensures in let q : c.position.result < c.self.inside.settled = c.if-position-self.false in omega arith) in (
      tell_kept g.D.Device.disk (seen_of c.self.inside) c.args.self.now c.self.inside.book c.args.ticket c.in-Some.position c.close.new.self c.self.view_is c.in-Some.ensures.some below c.close.ensures c.self.invariant.0,
      gone_told c.self.inside.bygone.items c.self.inside.kept c.close.new.self c.in-Some.position c.self.inside.retired c.self.inside.told c.close.ensures
          (open_here (seen_of c.self.inside) c.args.self.now c.args.ticket c.in-Some.position c.self.view_is c.in-Some.ensures.some) c.self.invariant.1,
    )

pub returns-in-Ok : goal.returns-in-Ok
returns-in-Ok g c =
    let below : c.args.ticket.position < c.self.inside.settled = (let p : c.position.result ≡ c.args.ticket.position = c.position.ensures in let q : c.position.result < c.self.inside.settled = c.if-position-self.false in omega arith) in
    let t = tells (seen_of c.self.inside) c.args.self.now c.args.ticket c.in-Some.position c.close.new.self c.in-Ok.reply c.into_receipt.result c.self.view_is c.in-Some.ensures.some below c.close.ensures c.in-Ok.ensures c.into_receipt.ensures in
    record { told = t; answered = telling_is_answered t }
