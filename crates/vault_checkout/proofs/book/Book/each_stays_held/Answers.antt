use Rattle.std.proofs.Common.{◌≡◌, ◌∙◌, ◌+◌, true, sym, subst, drop, All}
use Rattle.vault_state.specs.declared.ids.ClaimId.TheVariants.{Long}
use Rattle.vault_state.specs.Claims.{put_first}
use Rattle.vault_state.specs.Vault.{IsDraft}
use Rattle.vault_model.specs.After.{drafts_held}
use Rattle.vault_state.proofs.Lists.{All-front, All-back}
use Rattle.check_outs.specs.Typed.{number_of, own_drafts, marked, saved}
use Rattle.vault_checkout.proofs.Recalls.{from_one, held-append}
use Rattle.vault_checkout.proofs.book.Book.each_stays_held.Goals as goal

pub stays_held-requires-clause-drafts : goal.stays_held-requires-clause-drafts
stays_held-requires-clause-drafts g c =
    let split = from_one c.args.check_outs.now c.loop-check_out.check_out-index c.check_out-item.result c.check_out-item.is c.loop-check_out-test.true in
    All-front (IsDraft c.args.self.now.tree c.args.self.now.line) (marked (number_of c.check_out-item.result) (own_drafts c.check_out-item.result)) (saved (drop (c.loop-check_out.check_out-index + 1) c.args.check_outs.now))
    (subst (All (IsDraft c.args.self.now.tree c.args.self.now.line)) split c.loop-check_out.invariant.drafts)

pub loop-check_out-preserved : goal.loop-check_out-preserved
loop-check_out-preserved g c =
    let split = from_one c.args.check_outs.now c.loop-check_out.check_out-index c.check_out-item.result c.check_out-item.is c.loop-check_out-test.true in
    let here : drafts_held c.args.self.now.tree (put_first c.args.self.now.line (Long c.args.number) c.args.items.now) (marked (number_of c.check_out-item.result) (own_drafts c.check_out-item.result)) ≡ true = sym c.stays_held.ensures ∙ c.if-not-stays_held.false in
    let front = held-append c.args.self.now.tree (put_first c.args.self.now.line (Long c.args.number) c.args.items.now) (marked (number_of c.check_out-item.result) (own_drafts c.check_out-item.result)) (saved (drop (c.loop-check_out.check_out-index + 1) c.args.check_outs.now)) in
    record {
      held = sym (rw here at front) ∙ (rw split at c.loop-check_out.invariant.held);
      drafts = All-back (IsDraft c.args.self.now.tree c.args.self.now.line) (marked (number_of c.check_out-item.result) (own_drafts c.check_out-item.result)) (saved (drop (c.loop-check_out.check_out-index + 1) c.args.check_outs.now))
          (subst (All (IsDraft c.args.self.now.tree c.args.self.now.line)) split c.loop-check_out.invariant.drafts);
    }
