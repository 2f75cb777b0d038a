use Rattle.std.proofs.Common.{◌≡◌, true, false, Some, None, ap, sym, ◌∙◌, refl, subst, rules, arith, ℕ, ◌≤◌, List, length}
use Rattle.std.specs.Prelude.{All}
use Rattle.vault_state.specs.Limits.{longest_content, most_versions}
use Rattle.vault_state.specs.Shelf.{Draft, drafts_weight, shelved_all, is_shelvable, IsShelf}
use Rattle.part_versions.specs.Kept.{IsSoundShelf}
use Rattle.part_versions.specs.Rooms.{weight_with, have_room}
use Rattle.part_versions.proofs.Rooms.{refused_by_weight, refused_by_room, allowed, not_too_heavy, short_drafts, kept_after}
use Rattle.part_versions.proofs.shelf.Shelf.append_all.Goals as goal

pub returns-in_default-clause-refused : goal.returns-in_default-clause-refused
returns-in_default-clause-refused g c =
    let none : None ≡ weight_with c.self.inside.weight c.args.drafts = sym c.in_default.is ∙ c.weight_with.ensures ∙ ap (weight_with c.self.inside.weight) c.as_slice.ensures in
    (ap (λ s. is_shelvable s c.args.drafts) (sym c.self.view_is) ∙ refused_by_weight c.self.inside.parts.items c.args.drafts c.self.inside.weight c.self.invariant none, refl)

pub returns-then-not-have_room-clause-refused : goal.returns-then-not-have_room-clause-refused
returns-then-not-have_room-clause-refused g c =
    let full : have_room c.self.inside.parts.items c.args.drafts ≡ false = search rules in
    (ap (λ s. is_shelvable s c.args.drafts) (sym c.self.view_is) ∙ refused_by_room c.self.inside.parts.items c.args.drafts c.self.inside.weight c.self.invariant full, refl)

pub append_each-requires-clause-short : goal.append_each-requires-clause-short
append_each-requires-clause-short g c =
    let some : Some c.in-Some.weight ≡ weight_with c.self.inside.weight c.args.drafts = sym c.in-Some.is ∙ c.weight_with.ensures ∙ ap (weight_with c.self.inside.weight) c.as_slice.ensures in
    subst (λ (drafts : List Draft). All (λ (draft : Draft). length draft.content ≤ longest_content) drafts) (sym c.as_slice-3.ensures) (short_drafts c.args.drafts c.self.inside.weight c.in-Some.weight some)

pub append_each-requires-clause-light : goal.append_each-requires-clause-light
append_each-requires-clause-light g c =
    let some : Some c.in-Some.weight ≡ weight_with c.self.inside.weight c.args.drafts = sym c.in-Some.is ∙ c.weight_with.ensures ∙ ap (weight_with c.self.inside.weight) c.as_slice.ensures in
    let same = ap drafts_weight c.as_slice-3.ensures in
    omega (arith, same, not_too_heavy c.self.inside.parts.items c.args.drafts c.self.inside.weight c.in-Some.weight c.self.invariant some)

pub invariant_of-self : goal.invariant_of-self
invariant_of-self g c =
    let some : Some c.in-Some.weight ≡ weight_with c.self.inside.weight c.args.drafts = sym c.in-Some.is ∙ c.weight_with.ensures ∙ ap (weight_with c.self.inside.weight) c.as_slice.ensures in
    let room : have_room c.self.inside.parts.items c.args.drafts ≡ true = search rules in
    kept_after c.self.inside.parts.items c.append_each.new.parts.items c.args.drafts c.as_slice-3.result.now c.self.inside.weight c.in-Some.weight c.self.invariant some room c.in-Ok.ensures.ok c.as_slice-3.ensures

pub returns-in-Ok-clause-shelf : goal.returns-in-Ok-clause-shelf
returns-in-Ok-clause-shelf g c =
    let some : Some c.in-Some.weight ≡ weight_with c.self.inside.weight c.args.drafts = sym c.in-Some.is ∙ c.weight_with.ensures ∙ ap (weight_with c.self.inside.weight) c.as_slice.ensures in
    let room : have_room c.self.inside.parts.items c.args.drafts ≡ true = search rules in
    (kept_after c.self.inside.parts.items c.append_each.new.parts.items c.args.drafts c.as_slice-3.result.now c.self.inside.weight c.in-Some.weight c.self.invariant some room c.in-Ok.ensures.ok c.as_slice-3.ensures).shelf_is

pub returns-in-Ok-clause-allowed : goal.returns-in-Ok-clause-allowed
returns-in-Ok-clause-allowed g c =
    let some : Some c.in-Some.weight ≡ weight_with c.self.inside.weight c.args.drafts = sym c.in-Some.is ∙ c.weight_with.ensures ∙ ap (weight_with c.self.inside.weight) c.as_slice.ensures in
    let room : have_room c.self.inside.parts.items c.args.drafts ≡ true = search rules in
    ap (λ s. is_shelvable s c.args.drafts) (sym c.self.view_is) ∙ (allowed c.self.inside.parts.items c.args.drafts c.self.inside.weight c.in-Some.weight c.self.invariant some room).0

pub returns-in-Err-clause-refused : goal.returns-in-Err-clause-refused
returns-in-Err-clause-refused g c =
    let some : Some c.in-Some.weight ≡ weight_with c.self.inside.weight c.args.drafts = sym c.in-Some.is ∙ c.weight_with.ensures ∙ ap (weight_with c.self.inside.weight) c.as_slice.ensures in
    let room : have_room c.self.inside.parts.items c.args.drafts ≡ true = search rules in
    (ap (λ s. is_shelvable s c.args.drafts) (sym c.self.view_is) ∙ (allowed c.self.inside.parts.items c.args.drafts c.self.inside.weight c.in-Some.weight c.self.invariant some room).0, refl)

pub returns-in_default-clause-shelf : goal.returns-in_default-clause-shelf
returns-in_default-clause-shelf g c = subst IsShelf c.self.view_is c.self.invariant.shelf_is

pub returns-then-not-have_room-clause-shelf : goal.returns-then-not-have_room-clause-shelf
returns-then-not-have_room-clause-shelf g c = subst IsShelf c.self.view_is c.self.invariant.shelf_is

pub returns-in-Ok-clause-appended : goal.returns-in-Ok-clause-appended
returns-in-Ok-clause-appended g c =
    c.in-Ok.ensures.ok ∙ ap (shelved_all c.self.inside.parts.items) c.as_slice-3.ensures ∙ ap (λ s. shelved_all s c.args.drafts) c.self.view_is

pub returns-in-Err-clause-shelf : goal.returns-in-Err-clause-shelf
returns-in-Err-clause-shelf g c = subst IsShelf (sym c.in-Err.ensures.err) c.self.invariant.shelf_is

pub returns-in-Err-clause-unchanged : goal.returns-in-Err-clause-unchanged
returns-in-Err-clause-unchanged g c = c.in-Err.ensures.err ∙ c.self.view_is

pub invariant_of-self-in-Err : goal.invariant_of-self-in-Err
invariant_of-self-in-Err g c =
    subst (λ (s : List (List (List ℕ))). IsSoundShelf s c.self.inside.weight) (sym c.in-Err.ensures.err) c.self.invariant

pub weight_with-requires : goal.weight_with-requires
weight_with-requires g c = omega (arith, c.self.invariant.weighed, c.self.invariant.shelf_is.light)

pub have_room-requires : goal.have_room-requires
have_room-requires g c =
    subst (λ (s : List (List (List ℕ))). All (λ versions. length versions ≤ most_versions) s) (sym c.deref.ensures.value) c.self.invariant.shelf_is.few
