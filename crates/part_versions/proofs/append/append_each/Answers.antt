use Rattle.std.proofs.Common.{◌≡◌, ℕ, ◌<◌, List, length, take, get_or, rules, arith, ap, sym, subst, ◌∙◌}
use Rattle.std.specs.Prelude.{All}
use Rattle.vault_state.specs.Shelf.{Draft, shelved, shelved_all, content_weight, weight}
use Rattle.part_versions.specs.Taken.{taken_all}
use Rattle.part_versions.proofs.Shelving.{weight-more, shelved_all-more, places_there, taken_back}
use Rattle.part_versions.proofs.append.append_each.Goals as goal

-- the draft that is read is the one in the list
drafted : (drafts : List Draft) (i : ℕ) (draft : Draft) (content : List ℕ) → content ≡ draft.content → draft ≡ get_or drafts i draft → content ≡ (get_or drafts i draft).content
drafted drafts i draft content e read = e ∙ ap (λ (d : Draft). d.content) read

pub append-requires-clause-short : goal.append-requires-clause-short
append-requires-clause-short g c =
    let inside : c.loop-done.done < length c.args.drafts.now = omega arith in
    let there = c.requires.short c.loop-done.done c.index-drafts-done.result inside in
    let content = ap length (drafted c.args.drafts.now c.loop-done.done c.index-drafts-done.result c.as_slice.result.now c.as_slice.ensures c.index-drafts-done.is) in
    omega (arith, there, content)

pub append-requires-clause-light : goal.append-requires-clause-light
append-requires-clause-light g c =
    let inside : c.loop-done.done < length c.args.drafts.now = omega arith in
    let more = weight-more c.args.parts.now.items c.args.drafts.now c.loop-done.done c.index-drafts-done.result inside in
    let same = ap weight c.loop-done.invariant in
    let content = ap content_weight (drafted c.args.drafts.now c.loop-done.done c.index-drafts-done.result c.as_slice.result.now c.as_slice.ensures c.index-drafts-done.is) in
    omega (arith, more, same, content, c.requires.light)

pub take_back-requires : goal.take_back-requires
take_back-requires g c =
    let same : c.append.new.parts.items ≡ c.loop-done.parts.items = c.in-Err.ensures.err in
    let P : List (List (List ℕ)) → Type 0 = λ s. All (λ (draft : Draft). draft.place < length s) (take c.loop-done.done c.args.drafts.now) in
    subst P (sym (same ∙ c.loop-done.invariant)) (places_there c.args.parts.now.items (take c.loop-done.done c.args.drafts.now))

pub returns-in-Err-clause-err : goal.returns-in-Err-clause-err
returns-in-Err-clause-err g c =
    let same : c.append.new.parts.items ≡ c.loop-done.parts.items = c.in-Err.ensures.err in
    let left : c.take_back.new.parts.items ≡ taken_all c.append.new.parts.items (take c.loop-done.done c.args.drafts.now) = search rules in
    let cut : c.truncate.new.self.items ≡ take (length c.args.parts.now.items) c.take_back.new.parts.items = search rules in
    cut ∙ ap (take (length c.args.parts.now.items)) (left ∙ ap (λ s. taken_all s (take c.loop-done.done c.args.drafts.now)) (same ∙ c.loop-done.invariant))
    ∙ taken_back c.args.parts.now.items (take c.loop-done.done c.args.drafts.now)

pub loop-done-preserved : goal.loop-done-preserved
loop-done-preserved g c =
    let inside : c.loop-done.done < length c.args.drafts.now = omega arith in
    let appended : c.append.new.parts.items ≡ shelved c.loop-done.parts.items c.index-drafts-done.result.place c.as_slice.result.now = search rules in
    let content = drafted c.args.drafts.now c.loop-done.done c.index-drafts-done.result c.as_slice.result.now c.as_slice.ensures c.index-drafts-done.is in
    appended ∙ ap (λ s. shelved s c.index-drafts-done.result.place c.as_slice.result.now) c.loop-done.invariant
    ∙ ap (λ (d : Draft). shelved (shelved_all c.args.parts.now.items (take c.loop-done.done c.args.drafts.now)) d.place c.as_slice.result.now) c.index-drafts-done.is
    ∙ ap (shelved (shelved_all c.args.parts.now.items (take c.loop-done.done c.args.drafts.now)) (get_or c.args.drafts.now c.loop-done.done c.index-drafts-done.result).place) content
    ∙ sym (shelved_all-more c.args.parts.now.items c.args.drafts.now c.loop-done.done c.index-drafts-done.result inside)
