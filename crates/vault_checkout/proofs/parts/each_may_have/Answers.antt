use Rattle.std.proofs.Common.{◌≡◌, ◌<◌, ◌≤◌, ◌∙◌, [], ap, arith, get_or, length, refl, sym}
use Rattle.std.proofs.Math.ListN.{drop_of_length-le}
use Rattle.std.proofs.lemmas.List.Elements.{All-get_or, All-take}
use Rattle.vault_state.specs.Vault.{AreThere}
use Rattle.vault_state.specs.declared.claims.Claim.{Claim}
use Rattle.check_outs.proofs.PutIn.{match_length}
use Rattle.vault_checkout.proofs.Fitting.{none_left, each_at}
use Rattle.vault_checkout.proofs.PartsMade.{match_of}
use Rattle.vault_checkout.proofs.parts.each_may_have.Goals as goal

pub returns-then-claims-drafts : goal.returns-then-claims-drafts
returns-then-claims-drafts g c = (λ e. cc, λ may. absurd (c.if-claims-drafts.true (match_length c.args.claims.now c.args.drafts.now (match_of c.args.tree.now [] c.args.claims.now c.args.drafts.now may))))

pub may_have-requires-clause-before : goal.may_have-requires-clause-before
may_have-requires-clause-before g c = All-take (λ (d : Claim). AreThere c.args.tree.now d.items) c.loop-index.index c.args.claims.now c.requires

pub may_have-requires-clause-items : goal.may_have-requires-clause-items
may_have-requires-clause-items g c = All-get_or (λ (d : Claim). AreThere c.args.tree.now d.items) c.args.claims.now c.loop-index.index c.index-claims-index.result c.loop-index-test.true c.requires

pub returns-then-not-may_have : goal.returns-then-not-may_have
returns-then-not-may_have g c =
    let more : c.loop-index.index < length c.args.drafts.now = omega (arith, c.loop-index-test.true, c.if-claims-drafts.false) in
    let own_is : c.as_slice.result.now ≡ get_or c.args.drafts.now c.loop-index.index c.as_slice.result.now = rw c.as_slice.ensures c.index-drafts-index.is in
    let claim = get_or c.args.claims.now c.loop-index.index c.index-claims-index.result in
    let claim_is = ap (get_or c.args.claims.now c.loop-index.index) c.index-claims-index.is in
    let step = each_at c.args.tree.now c.args.claims.now c.args.drafts.now c.loop-index.index claim c.as_slice.result.now c.loop-index-test.true more claim_is own_is in
    (λ e. cc, λ all. sym c.if-not-may_have.true ∙ c.may_have.ensures.1 (step.0 (c.loop-index.invariant.0 all)).0)

pub loop-index-preserved : goal.loop-index-preserved
loop-index-preserved g c =
    let more : c.loop-index.index < length c.args.drafts.now = omega (arith, c.loop-index-test.true, c.if-claims-drafts.false) in
    let own_is : c.as_slice.result.now ≡ get_or c.args.drafts.now c.loop-index.index c.as_slice.result.now = rw c.as_slice.ensures c.index-drafts-index.is in
    let claim = get_or c.args.claims.now c.loop-index.index c.index-claims-index.result in
    let claim_is = ap (get_or c.args.claims.now c.loop-index.index) c.index-claims-index.is in
    let step = each_at c.args.tree.now c.args.claims.now c.args.drafts.now c.loop-index.index claim c.as_slice.result.now c.loop-index-test.true more claim_is own_is in
    let may = c.may_have.ensures.0 c.if-not-may_have.false in
    (λ all. (step.0 (c.loop-index.invariant.0 all)).1, λ rest. c.loop-index.invariant.1 (step.1 (may, rest)))

pub returns : goal.returns
returns g c =
    let none : length c.args.drafts.now ≤ c.loop-index.index = omega (arith, c.loop-index-test.false, c.if-claims-drafts.false) in
    (λ yes'. c.loop-index.invariant.1 (none_left _ _ _ _ (drop_of_length-le c.args.claims.now c.loop-index-test.false) (drop_of_length-le c.args.drafts.now none)), λ all. refl)
