use Rattle.std.specs.Prelude.{◌≡◌, suc, List, length}
use Rattle.std.proofs.Common.{sym, ap, subst, ◌∙◌, arith, refl}
use Rattle.std.specs.Vec.{vec_capacity}
use Rattle.lock_queue.specs.declared.queue.Request.{Request}
use Rattle.lock_queue.specs.Queue.{QueueSeen, requests_without, with_own}
use Rattle.lock_queue.proofs.Requests.{counted_without, one_there, own_some, seen, queue_same, has_shown}
use Rattle.lock_queue.proofs.Taken.{one_inside, one_found, one_request, one_index, one_taken}
use Rattle.lock_queue.proofs.queue.PlaceQueue.take_out.Goals as goal

pub remove-requires : goal.remove-requires
remove-requires g c =
    let mine = has_shown c.self.inside.queue.items _ _ c.self.view_is c.args.id c.args.mode c.args.is_held c.requires in
    one_there c.self.inside.queue.items c.args.id c.args.mode c.args.is_held c.self.inside.all c.self.inside.held c.self.invariant mine

pub unwrap-index-requires : goal.unwrap-index-requires
unwrap-index-requires g c =
    let mine = has_shown c.self.inside.queue.items _ _ c.self.view_is c.args.id c.args.mode c.args.is_held c.requires in
    let one = one_request c.args.id c.args.mode c.args.is_held c.self.inside.queue.items mine in
    rw (c.index_from_end.ensures, c.deref.ensures.value, one_found c.args.id c.self.inside.queue.items one) refl

pub index_from_end-requires : goal.index_from_end-requires
index_from_end-requires g c =
    let mine = has_shown c.self.inside.queue.items _ _ c.self.view_is c.args.id c.args.mode c.args.is_held c.requires in
    record { one = subst (λ (xs : List Request). length xs ≡ suc (length (requests_without c.args.id xs))) (sym c.deref.ensures.value) (one_request c.args.id c.args.mode c.args.is_held c.self.inside.queue.items mine) }

pub remove-requires-2 : goal.remove-requires-2
remove-requires-2 g c =
    let queue = c.self.inside.queue.items in
    let one = one_request c.args.id c.args.mode c.args.is_held queue (has_shown queue _ _ c.self.view_is c.args.id c.args.mode c.args.is_held c.requires) in
    let same = one_index c.args.id queue c.deref.result.now c.unwrap-index.result one c.deref.ensures.value (sym c.index_from_end.ensures ∙ c.unwrap-index.ensures) in
    let inside = one_inside c.args.id queue one in
    omega (arith, inside, same, c.self.inside.queue.ok.0)

-- the requests that are left are those of the others
left : (g : _) (c : goal.After-remove-2 g) → c.remove-2.new.self.items ≡ requests_without c.args.id c.self.inside.queue.items
left g c =
    let queue = c.self.inside.queue.items in
    let one = one_request c.args.id c.args.mode c.args.is_held queue (has_shown queue _ _ c.self.view_is c.args.id c.args.mode c.args.is_held c.requires) in
    c.remove-2.ensures.items ∙ one_taken c.args.id queue c.deref.result.now c.unwrap-index.result one c.deref.ensures.value (sym c.index_from_end.ensures ∙ c.unwrap-index.ensures)

pub invariant_of-self : goal.invariant_of-self
invariant_of-self g c =
    let queue = c.self.inside.queue.items in
    let mine = has_shown queue _ _ c.self.view_is c.args.id c.args.mode c.args.is_held c.requires in
    counted_without queue c.remove-2.new.self.items c.args.id c.args.mode c.args.is_held c.self.inside.all c.self.inside.held c.remove.new.self c.without-self-inside.result c.self.invariant mine
    c.remove.ensures (subst (λ o. c.self.inside.held ≡ with_own o c.without-self-inside.result) (c.then_some.ensures ∙ own_some c.args.is_held c.args.mode) c.without-self-inside.ensures) (left g c)

pub returns : goal.returns
returns g c =
    let queue = c.self.inside.queue.items in
    queue_same c.remove-2.new.self.items (requests_without c.args.id queue) (vec_capacity c.remove-2.new.self) (vec_capacity c.self.inside.queue) (left g c) c.remove-2.ensures.capacity
    ∙ ap (λ (v : QueueSeen). seen (requests_without c.args.id v.requests) v.room) c.self.view_is
