use Rattle.std.proofs.Common.{◌≡◌, refl}
use Rattle.std.specs.Prelude.{map}
use Rattle.vault_state.specs.Claims.{without_session}
use Rattle.vault_model.proofs.Kept.{kept_gone, counts_left}
use Rattle.vault_checkout.specs.Seen.{vault_of}
use Rattle.check_outs.specs.Typed.{granted}
use Rattle.vault_checkout.proofs.Agreeing.{agrees_gone, saved_granted}
use Rattle.vault_checkout.proofs.book.Book.leave.Goals as goal

pub invariant_of-self : goal.invariant_of-self
invariant_of-self g c =
    let items : c.grant_held.new.check_outs.items ≡ map (granted c.self.inside.tree (without_session c.args.session.now.number c.self.inside.line.claims)) c.self.inside.check_outs.items =
    rw c.drop_session.ensures at c.grant_held.ensures c.self.inside.tree c.self.invariant.0.tree c.self.invariant.1 in
    rw (c.drop_session.ensures, c.drop_session-2.ensures, items, saved_granted c.self.inside.tree (without_session c.args.session.now.number c.self.inside.line.claims) c.self.inside.check_outs.items)
    (kept_gone (vault_of c.self.inside) c.self.invariant.0 c.args.session.now.number, c.self.invariant.1, agrees_gone (vault_of c.self.inside) c.self.invariant.0 c.self.inside.check_outs.items c.self.invariant.2 c.args.session.now.number)

pub returns-clause-told : goal.returns-clause-told
returns-clause-told g c =
    let items : c.grant_held.new.check_outs.items ≡ map (granted c.self.inside.tree (without_session c.args.session.now.number c.self.inside.line.claims)) c.self.inside.check_outs.items =
    rw c.drop_session.ensures at c.grant_held.ensures c.self.inside.tree c.self.invariant.0.tree c.self.invariant.1 in
    rw (← c.self.view_is, c.drop_session.ensures, c.drop_session-2.ensures, items, saved_granted c.self.inside.tree (without_session c.args.session.now.number c.self.inside.line.claims) c.self.inside.check_outs.items) refl

pub returns-clause-counts : goal.returns-clause-counts
returns-clause-counts g c = λ bound h.
    let items : c.grant_held.new.check_outs.items ≡ map (granted c.self.inside.tree (without_session c.args.session.now.number c.self.inside.line.claims)) c.self.inside.check_outs.items =
    rw c.drop_session.ensures at c.grant_held.ensures c.self.inside.tree c.self.invariant.0.tree c.self.invariant.1 in
    rw (c.drop_session.ensures, c.drop_session-2.ensures, items, saved_granted c.self.inside.tree (without_session c.args.session.now.number c.self.inside.line.claims) c.self.inside.check_outs.items)
    (counts_left c.args.session.now.number bound (vault_of c.self.inside) _ (rw (← c.self.view_is) at h))
