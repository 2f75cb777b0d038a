use Rattle.std.proofs.Common.{◌≡◌, refl, true}
use Rattle.std.specs.Prelude.{map}
use Rattle.vault_state.specs.declared.ids.ClaimId.TheVariants.{Long}
use Rattle.vault_state.specs.Claims.{without}
use Rattle.vault_state.specs.Drafts.{drafts_of}
use Rattle.vault_state.specs.Shelf.{is_shelvable}
use Rattle.vault_model.proofs.Kept.{kept_checked_in}
use Rattle.vault_checkout.specs.Seen.{vault_of}
use Rattle.check_outs.specs.Typed.{granted, saved, without_check_out}
use Rattle.check_outs.proofs.AllDrafts.{drafts_are, others_are}
use Rattle.vault_checkout.proofs.Agreeing.{open_held, agrees_without, saved_granted}
use Rattle.vault_checkout.proofs.book.Book.close.Goals as goal

pub close_at-requires-clause-held : goal.close_at-requires-clause-held
close_at-requires-clause-held g c = open_held c.self.inside.tree c.self.inside.line.claims c.self.inside.check_outs.items c.self.invariant.2 c.args.number (rw (← c.self.view_is) at c.requires)

pub close_at-requires-clause-few : goal.close_at-requires-clause-few
close_at-requires-clause-few g c = rw (← drafts_are c.args.number c.self.inside.check_outs.items c.self.invariant.2.ascending) (c.self.invariant.0.drafts.few c.args.number)

pub returns-in-Err-clause-refused : goal.returns-in-Err-clause-refused
returns-in-Err-clause-refused g c = rw (← c.self.view_is, drafts_are c.args.number c.self.inside.check_outs.items c.self.invariant.2.ascending) c.in-Err.ensures.refused

pub invariant_of-self-2 : goal.invariant_of-self-2
invariant_of-self-2 g c =
    let items : c.grant_held.new.check_outs.items ≡ map (granted c.self.inside.tree (without c.self.inside.line.claims (Long c.args.number))) (without_check_out c.self.inside.check_outs.items c.args.number) =
    rw (c.drop_claim.ensures, c.in-Ok.ensures.closed) at c.grant_held.ensures c.self.inside.tree c.self.invariant.0.tree c.self.invariant.1 in
    let allowed : is_shelvable c.self.inside.shelf (drafts_of (saved c.self.inside.check_outs.items) c.args.number) ≡ true = rw (drafts_are c.args.number c.self.inside.check_outs.items c.self.invariant.2.ascending) c.in-Ok.ensures.allowed in
    rw (c.drop_claim.ensures, c.in-Ok.ensures.shelved, items, saved_granted c.self.inside.tree (without c.self.inside.line.claims (Long c.args.number)) (without_check_out c.self.inside.check_outs.items c.args.number), others_are c.args.number c.self.inside.check_outs.items, ← drafts_are c.args.number c.self.inside.check_outs.items c.self.invariant.2.ascending)
    (kept_checked_in (vault_of c.self.inside) c.self.invariant.0 c.args.number allowed, c.self.invariant.1, agrees_without (vault_of c.self.inside) c.self.invariant.0 c.self.inside.check_outs.items c.self.invariant.2 c.args.number)

pub returns-clause-allowed : goal.returns-clause-allowed
returns-clause-allowed g c = rw (← c.self.view_is, drafts_are c.args.number c.self.inside.check_outs.items c.self.invariant.2.ascending) c.in-Ok.ensures.allowed

pub returns-clause-count : goal.returns-clause-count
returns-clause-count g c = rw (← c.self.view_is, drafts_are c.args.number c.self.inside.check_outs.items c.self.invariant.2.ascending) c.in-Ok.ensures.count

pub returns-clause-closed : goal.returns-clause-closed
returns-clause-closed g c =
    let items : c.grant_held.new.check_outs.items ≡ map (granted c.self.inside.tree (without c.self.inside.line.claims (Long c.args.number))) (without_check_out c.self.inside.check_outs.items c.args.number) =
    rw (c.drop_claim.ensures, c.in-Ok.ensures.closed) at c.grant_held.ensures c.self.inside.tree c.self.invariant.0.tree c.self.invariant.1 in
    rw (← c.self.view_is, c.drop_claim.ensures, c.in-Ok.ensures.shelved, items, saved_granted c.self.inside.tree (without c.self.inside.line.claims (Long c.args.number)) (without_check_out c.self.inside.check_outs.items c.args.number), others_are c.args.number c.self.inside.check_outs.items, drafts_are c.args.number c.self.inside.check_outs.items c.self.invariant.2.ascending) refl
