use Rattle.std.proofs.Common.{◌∙◌, sym}
use Rattle.vault_checkout.proofs.parts.are_fit.Goals.{then-not-are_of_parts-via-then-not-are_of_parts, then-not-are_of_parts-via-else-not-are_of_parts+then-not-each_may_have}
use Rattle.vault_checkout.proofs.parts.are_fit.Goals as goal

pub returns-then-not-are_of_parts : goal.returns-then-not-are_of_parts
returns-then-not-are_of_parts g c = (
  λ e. cc,
  λ fit. elim c.then-not-are_of_parts.branch [
    | then-not-are_of_parts-via-then-not-are_of_parts w ↦ sym w.if-not-are_of_parts.true ∙ c.are_of_parts.ensures.1 fit.versions
    | then-not-are_of_parts-via-else-not-are_of_parts+then-not-each_may_have w ↦ sym w.if-not-each_may_have.true ∙ w.each_may_have.ensures.1 fit.may_have
  ],
)

pub returns : goal.returns
returns g c =
    let there = c.have_places.ensures.0 c.if-not-have_places.false in
    let versions = c.are_of_parts.ensures.0 c.if-not-are_of_parts.false in
    let may_have = c.each_may_have.ensures.0 c.if-not-each_may_have.false in
    (λ light. record { there = there; versions = versions; may_have = may_have; light = c.are_light.ensures.0 light }, λ fit. c.are_light.ensures.1 fit.light)
