use Rattle.std.specs.Prelude.{◌≡◌, ◌<◌, ◌≤◌, length, position, None, set, false, refl}
use Rattle.std.proofs.Common.{sym, ap, subst, ◌∙◌, arith, rules}
use Rattle.std.specs.Vec.{vec_capacity}
use Rattle.vault_state.specs.Limits.{most_claims}
use Rattle.lock_modes.specs.Groups.{Counts, count_of, group_of}
use Rattle.lock_queue.specs.Queue.{QueueSeen, request_modes, held_requests, restood}
use Rattle.lock_queue.proofs.Counts.{size_held_is}
use Rattle.lock_queue.proofs.Groups.{count_own}
use Rattle.lock_queue.proofs.Requests.{is_its, IsAt, request_read, request_absent, counted_restood, seen, queue_same, other_flag, other_flag_up}
use Rattle.lock_queue.proofs.queue.PlaceQueue.stand.Goals as goal

pub returns-in_default : goal.returns-in_default
returns-in_default g c =
    let items = c.self.inside.queue.items in
    let none : c.index_of.result ≡ None = search rules in
    let absent = request_absent c.args.id items c.args.is_held (ap (position (is_its c.args.id)) (sym c.deref.ensures.value) ∙ (sym c.index_of.ensures ∙ none)) in
    subst (λ (v : QueueSeen). v ≡ seen (restood c.args.id c.args.is_held v.requests) v.room) c.self.view_is (ap (λ xs. seen xs (vec_capacity c.self.inside.queue)) (sym absent))

pub returns-then-request-is_held : goal.returns-then-request-is_held
returns-then-request-is_held g c =
    let items = c.self.inside.queue.items in
    let s = c.index-request.result.now in
    let at = request_read c.args.id items c.deref.result.now c.in-Some.index s c.deref.ensures.value (sym c.index_of.ensures ∙ c.in-Some.is) c.index-request.ensures in
    let same : s.is_held ≡ c.args.is_held = search rules in
    let kept : restood c.args.id c.args.is_held items ≡ items = ap (λ b. restood c.args.id b items) (sym same) ∙ at.same in
    subst (λ (v : QueueSeen). v ≡ seen (restood c.args.id c.args.is_held v.requests) v.room) c.self.view_is (ap (λ xs. seen xs (vec_capacity c.self.inside.queue)) (sym kept))

-- the claim's request, and that its standing is to change
its : (g : _) (c : goal.After-changed-arg-1 g) → IsAt c.args.id c.self.inside.queue.items c.in-Some.index c.index-request.result.now
its g c = request_read c.args.id c.self.inside.queue.items c.deref.result.now c.in-Some.index c.index-request.result.now c.deref.ensures.value (sym c.index_of.ensures ∙ c.in-Some.is) c.index-request.ensures

otherwise : (g : _) (c : goal.After-changed-arg-1 g) → c.index-request.result.now.is_held ≡ c.args.is_held → ⊥
otherwise g c = search rules

pub changed-self-inside-requires-clause-more : goal.changed-self-inside-requires-clause-more
changed-self-inside-requires-clause-more g c = λ h.
    let items = c.self.inside.queue.items in
    let few : length items ≤ most_claims = subst (λ (v : QueueSeen). length v.requests ≤ most_claims) (sym c.self.view_is) c.requires in
    let less = (its g c).fewer (other_flag c.index-request.result.now.is_held c.args.is_held (otherwise g c) h) in
    let size = size_held_is items c.self.inside.all c.self.inside.held c.self.invariant in
    omega (arith, few, less, size)

pub changed-self-inside-requires-clause-less : goal.changed-self-inside-requires-clause-less
changed-self-inside-requires-clause-less g c = λ h.
    let s = c.index-request.result.now in
    let down = (its g c).down (other_flag_up s.is_held c.args.is_held (otherwise g c) h) in
    subst (λ (k : Counts). 0 < count_of k s.mode) (sym (c.self.invariant.1 ∙ down)) (count_own (group_of (request_modes (held_requests (restood c.args.id false c.self.inside.queue.items)))) s.mode)

pub invariant_of-self : goal.invariant_of-self
invariant_of-self g c =
    let items = c.self.inside.queue.items in
    let s = c.index-request.result.now in
    let at = request_read c.args.id items c.deref.result.now c.in-Some.index s c.deref.ensures.value (sym c.index_of.ensures ∙ c.in-Some.is) c.index-request.ensures in
    let differs : s.is_held ≡ c.args.is_held → ⊥ = search rules in
    counted_restood items (set items c.in-Some.index (record { id = s.id; mode = s.mode; is_held = c.args.is_held })) c.args.id c.in-Some.index s c.args.is_held c.self.inside.all c.self.inside.held c.changed-self-inside.result c.self.invariant at differs
    c.changed-self-inside.ensures.more c.changed-self-inside.ensures.less (at.changed c.args.is_held)

pub returns : goal.returns
returns g c =
    let items = c.self.inside.queue.items in
    let s = c.index-request.result.now in
    let at = request_read c.args.id items c.deref.result.now c.in-Some.index s c.deref.ensures.value (sym c.index_of.ensures ∙ c.in-Some.is) c.index-request.ensures in
    queue_same (set items c.in-Some.index (record { id = s.id; mode = s.mode; is_held = c.args.is_held })) (restood c.args.id c.args.is_held items) (vec_capacity c.self.inside.queue) (vec_capacity c.self.inside.queue) (at.changed c.args.is_held) refl
    ∙ ap (λ (v : QueueSeen). seen (restood c.args.id c.args.is_held v.requests) v.room) c.self.view_is
