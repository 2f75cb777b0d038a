use Rattle.std.specs.Prelude.{◌≡◌, ◌+◌, false, take}
use Rattle.std.proofs.Common.{arith, cond, get_or, rules}
use Rattle.std.proofs.lemmas.List.{length-take-le, take_more}
use Rattle.vault_state.specs.declared.ids.ClaimId.TheVariants.{Long}
use Rattle.lock_modes.specs.declared.mode.Mode.TheVariants.{IS}
use Rattle.lock_modes.specs.Groups.{with_one}
use Rattle.lock_queue.specs.declared.queue.Request.{Request}
use Rattle.lock_queue.proofs.Counts.{size_all, size_held, counted_push}
use Rattle.lock_queue.proofs.queue.groups_of.Goals as goal
use Rattle.lock_queue.proofs.queue.groups_of.Goals.{then-request, else-request}

pub add-requires : goal.add-requires
add-requires c =
    let size = size_all (take c.loop-request.request-index c.args.requests.now) c.loop-request.all c.loop-request.held c.loop-request.invariant in
    let many = length-take-le c.loop-request.request-index c.args.requests.now c.loop-request.auto.request-index-end in
    omega (arith, size, many, c.loop-request-test.true, c.requires)

pub add-requires-then-request : goal.add-requires-then-request
add-requires-then-request c =
    let size = size_held (take c.loop-request.request-index c.args.requests.now) c.loop-request.all c.loop-request.held c.loop-request.invariant in
    let many = length-take-le c.loop-request.request-index c.args.requests.now c.loop-request.auto.request-index-end in
    omega (arith, size, many, c.loop-request-test.true, c.requires)

pub loop-request-preserved : goal.loop-request-preserved
loop-request-preserved c =
    let requests = c.args.requests.now in
    let i = c.loop-request.request-index in
    let request : Request = get_or requests i (record { id = Long 0; mode = IS; is_held = false }) in
    let held : c.if-request.held ≡ cond request.is_held (with_one c.loop-request.held request.mode) c.loop-request.held =
    elim c.if-request.branch [ then-request w ↦ search rules | else-request w ↦ search rules ] in
    counted_push (take i requests) (take (i + 1) requests) c.loop-request.all c.loop-request.held request c.add.new.self c.if-request.held c.loop-request.invariant (take_more requests i _ c.loop-request-test.true) c.add.ensures held
