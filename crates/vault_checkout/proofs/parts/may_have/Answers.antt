use Rattle.std.proofs.Common.{◌≤◌, ◌∙◌, arith, length, refl, sym}
use Rattle.vault_state.specs.Limits.{most_drafts}
use Rattle.vault_checkout.proofs.Fitting.{is_some_list, may_have_none}
use Rattle.vault_checkout.proofs.parts.may_have.Goals.{then-drafts-gt-MAX_DRAFTS-via-then-drafts-gt-MAX_DRAFTS, then-drafts-gt-MAX_DRAFTS-via-else-drafts-gt-MAX_DRAFTS+then-not-are_rising}
use Rattle.vault_checkout.proofs.parts.may_have.Goals as goal

pub returns-then-is_empty : goal.returns-then-is_empty
returns-then-is_empty g c = (λ yes'. may_have_none _ _ _ _ (sym c.is_empty.ensures ∙ c.if-is_empty.true), λ may. refl)

pub returns-then-drafts-gt-MAX_DRAFTS : goal.returns-then-drafts-gt-MAX_DRAFTS
returns-then-drafts-gt-MAX_DRAFTS g c = (
  λ e. cc,
  λ may. elim c.then-drafts-gt-MAX_DRAFTS.branch [
    | then-drafts-gt-MAX_DRAFTS-via-then-drafts-gt-MAX_DRAFTS w ↦ absurd (omega (arith, w.if-drafts-gt-MAX_DRAFTS.true, may.few))
    | then-drafts-gt-MAX_DRAFTS-via-else-drafts-gt-MAX_DRAFTS+then-not-are_rising w ↦ sym w.if-not-are_rising.true ∙ w.are_rising.ensures.1 may.rising
  ],
)

pub returns-then-may_all_be : goal.returns-then-may_all_be
returns-then-may_all_be g c =
    let few : length c.args.drafts.now ≤ most_drafts = omega (arith, c.if-drafts-gt-MAX_DRAFTS.false) in
    let rising = c.are_rising.ensures.0 c.if-not-are_rising.false in
    let each = c.may_all_be.ensures.0 c.if-may_all_be.true in
    let some = is_some_list c.args.drafts.now (sym c.is_empty.ensures ∙ c.if-is_empty.false) in
    (λ apart. record { few = few; rising = rising; each = each; held = λ is_some. c.is_apart.ensures.0 apart }, λ may. c.is_apart.ensures.1 (may.held some))

pub returns-else-may_all_be : goal.returns-else-may_all_be
returns-else-may_all_be g c = (λ yes'. cc, λ may. c.may_all_be.ensures.1 may.each)
