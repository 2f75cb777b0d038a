use Rattle.std.proofs.Common.{◌≡◌, ◌+◌, ◌-◌, ◌<◌, ◌≤◌, suc, length, rules, arith, ap, ◌∙◌, slice_get, Some, slice_range, take, drop}
use Rattle.part_versions.specs.Cuts.{end_of}
use Rattle.part_versions.proofs.Cuts.{slice_get-contents_of, slice_get-contents_past, end_of-within, slice_behind_length, end_behind_length}
use Rattle.part_versions.proofs.part.Part.get.Goals as goal

pub returns-then-index-len : goal.returns-then-index-len
returns-then-index-len g c =
    let past : length c.self.inside.ends.items ≤ c.args.index = omega arith in
    slice_get-contents_past c.self.inside.ends.items c.self.inside.bytes.items c.args.index past ∙ ap (λ s. slice_get s c.args.index) c.self.view_is

pub slice_bounds-result-count : goal.slice_bounds-result-count
slice_bounds-result-count g c =
    let inside : c.args.index < length c.self.inside.ends.items = omega arith in
    let behind = end_behind_length c.self.inside.ends.items c.self.inside.bytes.items c.args.index c.self.invariant inside in
    let plain : c.args.index + 1 ≡ suc c.args.index = omega arith in
    let start = c.end_of-start.ensures ∙ ap (λ ends. end_of ends c.args.index) c.deref.ensures.value in
    let end = c.end_of-end.ensures ∙ ap (λ ends. end_of ends (c.args.index + 1)) c.deref-2.ensures.value ∙ ap (end_of c.self.inside.ends.items) plain in
    omega (arith, behind, start, end)

pub slice_bounds-result-start : goal.slice_bounds-result-start
slice_bounds-result-start g c =
    let inside : c.args.index < length c.self.inside.ends.items = omega arith in
    let behind = end_behind_length c.self.inside.ends.items c.self.inside.bytes.items c.args.index c.self.invariant inside in
    let plain : c.args.index + 1 ≡ suc c.args.index = omega arith in
    let start = c.end_of-start.ensures ∙ ap (λ ends. end_of ends c.args.index) c.deref.ensures.value in
    let end = c.end_of-end.ensures ∙ ap (λ ends. end_of ends (c.args.index + 1)) c.deref-2.ensures.value ∙ ap (end_of c.self.inside.ends.items) plain in
    let order : c.end_of-start.result + 2 ≤ c.end_of-end.result = omega (arith, behind, start, end) in
    search rules

pub slice_bounds-result-end : goal.slice_bounds-result-end
slice_bounds-result-end g c =
    let inside : c.args.index < length c.self.inside.ends.items = omega arith in
    let within = end_of-within c.self.inside.ends.items c.self.inside.bytes.items c.self.invariant (suc c.args.index) (omega arith) in
    let plain : c.args.index + 1 ≡ suc c.args.index = omega arith in
    let end = c.end_of-end.ensures ∙ ap (λ ends. end_of ends (c.args.index + 1)) c.deref-2.ensures.value ∙ ap (end_of c.self.inside.ends.items) plain in
    let bytes = ap length c.deref-3.ensures.value in
    let order : c.end_of-end.result ≤ length c.deref-3.result.now = omega (arith, within, end, bytes) in
    search rules

pub returns : goal.returns
returns g c =
    let inside : c.args.index < length c.self.inside.ends.items = omega arith in
    let behind = end_behind_length c.self.inside.ends.items c.self.inside.bytes.items c.args.index c.self.invariant inside in
    let plain : c.args.index + 1 ≡ suc c.args.index = omega arith in
    let start = c.end_of-start.ensures ∙ ap (λ ends. end_of ends c.args.index) c.deref.ensures.value in
    let end = c.end_of-end.ensures ∙ ap (λ ends. end_of ends (c.args.index + 1)) c.deref-2.ensures.value ∙ ap (end_of c.self.inside.ends.items) plain in
    ap (λ s. Some (take (c.end_of-end.result - (c.end_of-start.result + 2)) (drop (c.end_of-start.result + 2) s))) c.deref-3.ensures.value
    ∙ ap (λ a. Some (take (c.end_of-end.result - (a + 2)) (drop (a + 2) c.self.inside.bytes.items))) start
    ∙ ap (λ b. Some (slice_range c.self.inside.bytes.items (end_of c.self.inside.ends.items c.args.index + 2) b)) end
    ∙ ap Some (slice_behind_length c.self.inside.bytes.items (end_of c.self.inside.ends.items c.args.index) (end_of c.self.inside.ends.items (suc c.args.index)) behind)
    ∙ slice_get-contents_of c.self.inside.ends.items c.self.inside.bytes.items c.args.index inside
    ∙ ap (λ s. slice_get s c.args.index) c.self.view_is
