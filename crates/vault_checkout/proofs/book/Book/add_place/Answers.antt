use Rattle.std.proofs.Common.{refl}
use Rattle.vault_model.proofs.Kept.{kept_made}
use Rattle.long_locks.proofs.Grown.{grown_push}
use Rattle.vault_checkout.specs.Seen.{vault_of}
use Rattle.vault_checkout.proofs.Agreeing.{agrees_grown}
use Rattle.vault_checkout.proofs.Following.{on_error}
use Rattle.vault_checkout.proofs.book.Book.add_place.Goals as goal

pub invariant_of-self-2 : goal.invariant_of-self-2
invariant_of-self-2 g c =
    let tree = rw c.in_ok-place.ensures.ok at c.in_ok-place.ensures.tree in
    let parent = rw (← c.self.view_is) at c.requires.there in
    rw c.in_ok-place.ensures.ok (
      kept_made (vault_of c.self.inside) c.self.invariant.0 _ tree parent,
      grown_push c.self.inside.line.tree c.self.inside.tree _ c.self.invariant.1,
      agrees_grown (vault_of c.self.inside) c.self.invariant.0 c.self.inside.check_outs.items c.self.invariant.2 _ parent,
    )

pub push-requires-clause-there : goal.push-requires-clause-there
push-requires-clause-there g c = rw (← c.self.view_is) at c.requires.there

pub push-requires-clause-kind : goal.push-requires-clause-kind
push-requires-clause-kind g c = rw (← c.self.view_is) at c.requires.kind

pub push-requires-clause-fresh : goal.push-requires-clause-fresh
push-requires-clause-fresh g c = rw (← c.self.view_is) at c.requires.fresh

pub push-requires-clause-room : goal.push-requires-clause-room
push-requires-clause-room g c = rw (← c.self.view_is) at c.requires.room

pub invariant_of-self : goal.invariant_of-self
invariant_of-self g c = rw c.in_err-place.ensures.err c.self.invariant

pub returns-in_err-place-clause-unchanged : goal.returns-in_err-place-clause-unchanged
returns-in_err-place-clause-unchanged g c = rw (← c.self.view_is, c.in_err-place.ensures.err) (on_error _ c.from_residual.result refl)

pub returns-clause-place : goal.returns-clause-place
returns-clause-place g c = rw (← c.self.view_is) c.in_ok-place.ensures.made

pub returns-clause-made : goal.returns-clause-made
returns-clause-made g c = rw (← c.self.view_is, c.in_ok-place.ensures.ok) refl
