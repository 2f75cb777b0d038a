use Rattle.std.proofs.Common.{◌≡◌, ◌∙◌, ◌<◌, arith, sym, ap}
use Rattle.vault_state.specs.Shelf.{Draft}
use Rattle.check_outs.proofs.OwnDrafts.{rises_at, rising_next}
use Rattle.check_outs.proofs.parts.are_rising.Goals as goal

pub returns-then-number : goal.returns-then-number
returns-then-number g c = (
  λ e. cc,
  λ rising.
      let less = rises_at c.args.drafts.now c.loop-index.index c.index-drafts-index.result c.index-drafts-index-in-loop-index.result c.loop-index.auto.index c.loop-index-test.true c.index-drafts-index.is c.index-drafts-index-in-loop-index.is rising in
      let here : c.number.result ≡ c.index-drafts-index.result.place = c.number.ensures ∙ ap (λ (d : Draft). d.place) (sym c.index-drafts-index.is) in
      let before : c.number-in-loop-index.result ≡ c.index-drafts-index-in-loop-index.result.place = c.number-in-loop-index.ensures ∙ ap (λ (d : Draft). d.place) (sym c.index-drafts-index-in-loop-index.is) in
      absurd (omega (arith, less, here, before, c.if-number.true)),
)

pub loop-index-preserved : goal.loop-index-preserved
loop-index-preserved g c =
    let here : c.number.result ≡ c.index-drafts-index.result.place = c.number.ensures ∙ ap (λ (d : Draft). d.place) (sym c.index-drafts-index.is) in
    let before : c.number-in-loop-index.result ≡ c.index-drafts-index-in-loop-index.result.place = c.number-in-loop-index.ensures ∙ ap (λ (d : Draft). d.place) (sym c.index-drafts-index-in-loop-index.is) in
    let less : c.index-drafts-index-in-loop-index.result.place < c.index-drafts-index.result.place = omega (arith, here, before, c.if-number.false) in
    rising_next c.args.drafts.now c.loop-index.index c.index-drafts-index.result c.index-drafts-index-in-loop-index.result c.loop-index.auto.index c.loop-index-test.true c.index-drafts-index.is c.index-drafts-index-in-loop-index.is less c.loop-index.invariant
