use Rattle.std.proofs.Common.{◌≡◌, ◌+◌, arith, length}
use Rattle.std.proofs.lemmas.List.FromFn.{sum_by-map-range_with_len_more}
use Rattle.vault_state.specs.Shelf.{versions_of}
use Rattle.vault_inspector.proofs.counts.version_count.Goals as goal

pub loop-place-preserved : goal.loop-place-preserved
loop-place-preserved g c =
    let zero_more : 0 + c.loop-place.place ≡ c.loop-place.place = omega arith in
    let more = sum_by-map-range_with_len_more length (versions_of c.shelf-shelf.result.now) 0 c.loop-place.place c.loop-place.place zero_more in
    record {
      counted = omega (arith, more, c.loop-place.invariant.counted, c.count.ensures.count);
      few = omega (arith, c.loop-place.invariant.few);
    }
