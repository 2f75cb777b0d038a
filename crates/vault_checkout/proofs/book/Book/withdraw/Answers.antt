use Rattle.std.proofs.Common.{◌≡◌, refl}
use Rattle.std.specs.Prelude.{map}
use Rattle.vault_state.specs.declared.ids.ClaimId.TheVariants.{Long}
use Rattle.vault_state.specs.Claims.{without}
use Rattle.vault_model.proofs.Kept.{kept_without}
use Rattle.vault_checkout.specs.Seen.{vault_of}
use Rattle.check_outs.specs.Typed.{granted, without_check_out}
use Rattle.check_outs.proofs.AllDrafts.{others_are}
use Rattle.vault_checkout.proofs.Agreeing.{agrees_without, saved_granted}
use Rattle.vault_checkout.proofs.book.Book.withdraw.Goals as goal

pub withdraw_at-requires : goal.withdraw_at-requires
withdraw_at-requires g c = c.self.invariant.2.ascending

pub invariant_of-self : goal.invariant_of-self
invariant_of-self g c =
    let items : c.grant_held.new.check_outs.items ≡ map (granted c.self.inside.tree (without c.self.inside.line.claims (Long c.args.number))) (without_check_out c.self.inside.check_outs.items c.args.number) =
    rw (c.drop_claim.ensures, c.withdraw_at.ensures) at c.grant_held.ensures c.self.inside.tree c.self.invariant.0.tree c.self.invariant.1 in
    rw (c.drop_claim.ensures, items, saved_granted c.self.inside.tree (without c.self.inside.line.claims (Long c.args.number)) (without_check_out c.self.inside.check_outs.items c.args.number), others_are c.args.number c.self.inside.check_outs.items)
    (kept_without (vault_of c.self.inside) c.self.invariant.0 c.args.number, c.self.invariant.1, agrees_without (vault_of c.self.inside) c.self.invariant.0 c.self.inside.check_outs.items c.self.invariant.2 c.args.number)

pub returns : goal.returns
returns g c =
    let items : c.grant_held.new.check_outs.items ≡ map (granted c.self.inside.tree (without c.self.inside.line.claims (Long c.args.number))) (without_check_out c.self.inside.check_outs.items c.args.number) =
    rw (c.drop_claim.ensures, c.withdraw_at.ensures) at c.grant_held.ensures c.self.inside.tree c.self.invariant.0.tree c.self.invariant.1 in
    rw (← c.self.view_is, c.drop_claim.ensures, items, saved_granted c.self.inside.tree (without c.self.inside.line.claims (Long c.args.number)) (without_check_out c.self.inside.check_outs.items c.args.number), others_are c.args.number c.self.inside.check_outs.items) refl
