use Rattle.std.specs.Prelude.{◌≡◌, ◌<◌, ◌-◌, ℕ, suc, length}
use Rattle.std.proofs.Common.{subst, arith}
use Rattle.lock_queue.proofs.Ends.{item_at}
use Rattle.lock_table.proofs.Shorts.{IsThinning, thin_step, thin_done}
use Rattle.lock_table.proofs.table.keep_long.Goals as goal

pub loop-index-preserved : goal.loop-index-preserved
loop-index-preserved g c =
    let start = c.args.entries.now.items in
    let now = c.loop-index.entries.items in
    let i = c.loop-index.index - 1 in
    let one : c.loop-index.index ≡ suc i = omega (arith, c.loop-index-test.true) in
    let inside : i < length now = omega (arith, c.loop-index.invariant.thinning.inside, c.loop-index-test.true) in
    let item = item_at now i inside in
    record {
      thinning = thin_step start now c.remove_short.new.entries.items i item.item (subst (λ (k : ℕ). IsThinning start now k) one c.loop-index.invariant.thinning) item.is (c.remove_short.ensures.done item.item item.is);
      beside = λ old were. c.remove_short.ensures.beside old (c.loop-index.invariant.beside old were);
      many = c.remove_short.ensures.many;
    }

pub returns-clause-done : goal.returns-clause-done
returns-clause-done g c =
    let none : c.loop-index.index ≡ 0 = omega (arith, c.loop-index-test.false) in
    thin_done c.args.entries.now.items c.loop-index.entries.items (subst (λ (k : ℕ). IsThinning c.args.entries.now.items c.loop-index.entries.items k) none c.loop-index.invariant.thinning)
