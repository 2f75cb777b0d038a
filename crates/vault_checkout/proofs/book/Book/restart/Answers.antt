use Rattle.std.proofs.Common.{◌≡◌, refl}
use Rattle.std.specs.Prelude.{map}
use Rattle.vault_state.specs.Claims.{without_short}
use Rattle.vault_model.proofs.Kept.{kept_durable}
use Rattle.vault_checkout.specs.Seen.{vault_of}
use Rattle.check_outs.specs.Typed.{granted}
use Rattle.vault_checkout.proofs.Agreeing.{agrees_durable, saved_granted}
use Rattle.vault_checkout.proofs.book.Book.restart.Goals as goal

pub invariant_of-self : goal.invariant_of-self
invariant_of-self g c =
    let items : c.grant_held.new.check_outs.items ≡ map (granted c.self.inside.tree (without_short c.self.inside.line.claims)) c.self.inside.check_outs.items =
    rw c.restart.ensures at c.grant_held.ensures c.self.inside.tree c.self.invariant.0.tree c.self.invariant.1 in
    rw (c.restart.ensures, c.clear.ensures.items, items, saved_granted c.self.inside.tree (without_short c.self.inside.line.claims) c.self.inside.check_outs.items)
    (kept_durable (vault_of c.self.inside) c.self.invariant.0, c.self.invariant.1, agrees_durable (vault_of c.self.inside) c.self.invariant.0 c.self.inside.check_outs.items c.self.invariant.2)

pub returns : goal.returns
returns g c =
    let items : c.grant_held.new.check_outs.items ≡ map (granted c.self.inside.tree (without_short c.self.inside.line.claims)) c.self.inside.check_outs.items =
    rw c.restart.ensures at c.grant_held.ensures c.self.inside.tree c.self.invariant.0.tree c.self.invariant.1 in
    rw (← c.self.view_is, c.restart.ensures, c.clear.ensures.items, items, saved_granted c.self.inside.tree (without_short c.self.inside.line.claims) c.self.inside.check_outs.items) refl
