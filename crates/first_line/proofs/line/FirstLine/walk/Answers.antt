use Rattle.std.proofs.Common.{◌≡◌, ◌+◌, ℕ, suc, sym, ◌∙◌, subst, arith}
use Rattle.std.proofs.lemmas.Bool.{false≢true}
use Rattle.first_line.proofs.Own.{IsHeard, IsOwn, heard_next, own_next}
use Rattle.first_line.proofs.line.FirstLine.walk.Goals as goal

pub loop-count-preserved : goal.loop-count-preserved
loop-count-preserved c =
    let bytes = c.args.bytes.now in
    let count = c.loop-count.count in
    let next = c.step-line.result in
    let one : suc count ≡ count + 1 = omega arith in
    record {
      heard = subst (λ (n : ℕ). IsHeard c.args.self bytes n next) one (heard_next c.args.self c.loop-count.line next bytes count 0 c.loop-count-test.true c.step-line.ensures c.loop-count.invariant.heard);
      own = subst (λ (n : ℕ). IsOwn c.args.self bytes n next) one
          (own_next c.args.self c.loop-count.line next bytes count 0 c.loop-count-test.true c.step-line.ensures
          (λ foreign. absurd (false≢true (sym c.if-is_foreign.false ∙ c.is_foreign.ensures.known.1 foreign))) c.loop-count.invariant.own);
    }
