use Rattle.std.specs.Prelude.{◌≡◌, ◌-◌, ◌<◌, length, drop, true, All}
use Rattle.std.proofs.Common.{sym, ap, subst, ◌∙◌, arith}
use Rattle.std.proofs.lemmas.Option.{get_or_from_slice_get}
use Rattle.vault_state.specs.Claims.{same_id}
use Rattle.lock_queue.specs.declared.queue.Request.{Request}
use Rattle.lock_queue.proofs.Taken.{is_its_request}
use Rattle.lock_queue.proofs.Ends.{Fails, position_there, position_none, none_before, item_at}
use Rattle.lock_queue.proofs.queue.index_from_end.Goals as goal

pub returns-then-is_same : goal.returns-then-is_same
returns-then-is_same c =
    let requests = c.args.requests.now in
    let id = c.args.id in
    let i = c.loop-index.index - 1 in
    let inside : i < length requests = omega (arith, c.loop-index.invariant.inside, c.loop-index-test.true) in
    let at = item_at requests i inside in
    let its : same_id at.item.id id ≡ true = ap (λ (s : Request). same_id s.id id) (sym (get_or_from_slice_get requests i at.item _ at.is)) ∙ (sym c.is_same.ensures ∙ c.if-is_same.true) in
    sym (position_there (is_its_request id) requests i at.item at.is its (none_before id requests i at.item c.requires.one at.is its))

pub returns : goal.returns
returns c =
    let none : c.loop-index.index ≡ 0 = omega (arith, c.loop-index-test.false) in
    sym (position_none (is_its_request c.args.id) c.args.requests.now (subst (λ k. All (Fails (is_its_request c.args.id)) (drop k c.args.requests.now)) none c.loop-index.invariant.none))
