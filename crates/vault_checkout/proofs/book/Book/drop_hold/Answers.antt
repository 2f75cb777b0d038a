use Rattle.std.proofs.Common.{◌≡◌, refl}
use Rattle.std.specs.Prelude.{map}
use Rattle.vault_state.specs.declared.ids.ClaimId.TheVariants.{Short}
use Rattle.vault_state.specs.Claims.{without}
use Rattle.vault_model.proofs.Kept.{kept_released}
use Rattle.vault_checkout.specs.Seen.{vault_of}
use Rattle.check_outs.specs.Typed.{granted}
use Rattle.vault_checkout.proofs.Agreeing.{agrees_released, saved_granted}
use Rattle.vault_checkout.proofs.book.Book.drop_hold.Goals as goal

pub invariant_of-self : goal.invariant_of-self
invariant_of-self g c =
    let items : c.grant_held.new.check_outs.items ≡ map (granted c.self.inside.tree (without c.self.inside.line.claims (Short c.args.number))) c.self.inside.check_outs.items =
    rw c.drop_claim.ensures at c.grant_held.ensures c.self.inside.tree c.self.invariant.0.tree c.self.invariant.1 in
    rw (c.drop_claim.ensures, items, saved_granted c.self.inside.tree (without c.self.inside.line.claims (Short c.args.number)) c.self.inside.check_outs.items)
    (kept_released (vault_of c.self.inside) c.self.invariant.0 c.args.number, c.self.invariant.1, agrees_released (vault_of c.self.inside) c.self.invariant.0 c.self.inside.check_outs.items c.self.invariant.2 c.args.number)

pub returns : goal.returns
returns g c =
    let items : c.grant_held.new.check_outs.items ≡ map (granted c.self.inside.tree (without c.self.inside.line.claims (Short c.args.number))) c.self.inside.check_outs.items =
    rw c.drop_claim.ensures at c.grant_held.ensures c.self.inside.tree c.self.invariant.0.tree c.self.invariant.1 in
    rw (← c.self.view_is, c.drop_claim.ensures, items, saved_granted c.self.inside.tree (without c.self.inside.line.claims (Short c.args.number)) c.self.inside.check_outs.items) refl
