use Rattle.std.proofs.Common.{◌≡◌, true, false, Some, None, List, [], ◌∷◌, length, ◌≤◌, ap, sym, ◌∙◌, refl, rules, arith}
use Rattle.vault_state.specs.Limits.{longest_content, most_versions}
use Rattle.vault_state.specs.Shelf.{Draft, draft_at, is_shelvable}
use Rattle.part_versions.specs.Rooms.{weight_with, have_room}
use Rattle.part_versions.proofs.Rooms.{refused_by_weight, refused_by_room, allowed, not_too_heavy, short_drafts, kept_after}
use Rattle.part_versions.proofs.shelf.Shelf.append.Goals as goal

pub returns-in_default-clause-refused : goal.returns-in_default-clause-refused
returns-in_default-clause-refused g c =
    let one : List Draft = draft_at c.args.place c.args.content.now ∷ [] in
    let none : None ≡ weight_with c.self.inside.weight one = sym c.in_default.is ∙ c.weight_with_one.ensures c.args.place in
    ap (λ s. is_shelvable s one) (sym c.self.view_is) ∙ refused_by_weight c.self.inside.parts.items one c.self.inside.weight c.self.invariant none

pub returns-then-not-has_room_for_one-clause-refused : goal.returns-then-not-has_room_for_one-clause-refused
returns-then-not-has_room_for_one-clause-refused g c =
    let one : List Draft = draft_at c.args.place c.args.content.now ∷ [] in
    let full : have_room c.self.inside.parts.items one ≡ false =
    ap (λ s. have_room s one) (sym c.deref.ensures.value) ∙ sym (c.has_room_for_one.ensures c.args.content.now) ∙ search rules in
    ap (λ s. is_shelvable s one) (sym c.self.view_is) ∙ refused_by_room c.self.inside.parts.items one c.self.inside.weight c.self.invariant full

pub append-requires-clause-short : goal.append-requires-clause-short
append-requires-clause-short g c =
    let one : List Draft = draft_at c.args.place c.args.content.now ∷ [] in
    let some : Some c.in-Some.weight ≡ weight_with c.self.inside.weight one = sym c.in-Some.is ∙ c.weight_with_one.ensures c.args.place in
    short_drafts one c.self.inside.weight c.in-Some.weight some 0 (draft_at c.args.place c.args.content.now) (omega arith)

pub append-requires-clause-light : goal.append-requires-clause-light
append-requires-clause-light g c =
    let one : List Draft = draft_at c.args.place c.args.content.now ∷ [] in
    let some : Some c.in-Some.weight ≡ weight_with c.self.inside.weight one = sym c.in-Some.is ∙ c.weight_with_one.ensures c.args.place in
    omega (arith, not_too_heavy c.self.inside.parts.items one c.self.inside.weight c.in-Some.weight c.self.invariant some)

pub invariant_of-self : goal.invariant_of-self
invariant_of-self g c =
    let one : List Draft = draft_at c.args.place c.args.content.now ∷ [] in
    let some : Some c.in-Some.weight ≡ weight_with c.self.inside.weight one = sym c.in-Some.is ∙ c.weight_with_one.ensures c.args.place in
    let room : have_room c.self.inside.parts.items one ≡ true =
    ap (λ s. have_room s one) (sym c.deref.ensures.value) ∙ sym (c.has_room_for_one.ensures c.args.content.now) ∙ search rules in
    kept_after c.self.inside.parts.items c.append.new.parts.items one one c.self.inside.weight c.in-Some.weight c.self.invariant some room c.in-Ok.ensures.ok refl

pub returns-in-Ok-clause-shelf : goal.returns-in-Ok-clause-shelf
returns-in-Ok-clause-shelf g c =
    let one : List Draft = draft_at c.args.place c.args.content.now ∷ [] in
    let some : Some c.in-Some.weight ≡ weight_with c.self.inside.weight one = sym c.in-Some.is ∙ c.weight_with_one.ensures c.args.place in
    let room : have_room c.self.inside.parts.items one ≡ true =
    ap (λ s. have_room s one) (sym c.deref.ensures.value) ∙ sym (c.has_room_for_one.ensures c.args.content.now) ∙ search rules in
    (kept_after c.self.inside.parts.items c.append.new.parts.items one one c.self.inside.weight c.in-Some.weight c.self.invariant some room c.in-Ok.ensures.ok refl).shelf_is

pub returns-in-Ok-clause-allowed : goal.returns-in-Ok-clause-allowed
returns-in-Ok-clause-allowed g c =
    let one : List Draft = draft_at c.args.place c.args.content.now ∷ [] in
    let some : Some c.in-Some.weight ≡ weight_with c.self.inside.weight one = sym c.in-Some.is ∙ c.weight_with_one.ensures c.args.place in
    let room : have_room c.self.inside.parts.items one ≡ true =
    ap (λ s. have_room s one) (sym c.deref.ensures.value) ∙ sym (c.has_room_for_one.ensures c.args.content.now) ∙ search rules in
    ap (λ s. is_shelvable s one) (sym c.self.view_is) ∙ (allowed c.self.inside.parts.items one c.self.inside.weight c.in-Some.weight c.self.invariant some room).0

pub returns-in-Err-clause-refused : goal.returns-in-Err-clause-refused
returns-in-Err-clause-refused g c =
    let one : List Draft = draft_at c.args.place c.args.content.now ∷ [] in
    let some : Some c.in-Some.weight ≡ weight_with c.self.inside.weight one = sym c.in-Some.is ∙ c.weight_with_one.ensures c.args.place in
    let room : have_room c.self.inside.parts.items one ≡ true =
    ap (λ s. have_room s one) (sym c.deref.ensures.value) ∙ sym (c.has_room_for_one.ensures c.args.content.now) ∙ search rules in
    ap (λ s. is_shelvable s one) (sym c.self.view_is) ∙ (allowed c.self.inside.parts.items one c.self.inside.weight c.in-Some.weight c.self.invariant some room).0
