use Rattle.std.proofs.Common.{refl}
use Rattle.vault_state.specs.declared.ids.ClaimId.TheVariants.{Long}
use Rattle.vault_state.specs.Claims.{given_to}
use Rattle.vault_model.proofs.KeptInPlace.{kept_given}
use Rattle.vault_checkout.specs.Seen.{vault_of}
use Rattle.vault_checkout.proofs.Agreeing.{agrees_changed}
use Rattle.vault_checkout.proofs.book.Book.set_owner.Goals as goal

pub invariant_of-self : goal.invariant_of-self
invariant_of-self g c =
    rw c.give.ensures (
      kept_given (vault_of c.self.inside) c.self.invariant.0 c.args.number c.args.designer,
      c.self.invariant.1,
      agrees_changed (vault_of c.self.inside) c.self.invariant.0 c.self.inside.check_outs.items c.self.invariant.2 (Long c.args.number) (given_to c.args.designer) (λ x. refl) (λ x. refl),
    )

pub returns : goal.returns
returns g c = rw (← c.self.view_is, c.give.ensures) refl
