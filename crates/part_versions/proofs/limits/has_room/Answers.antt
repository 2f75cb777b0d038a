use Rattle.std.proofs.Common.{◌≡◌, ◌≤◌, length, ap, sym, ◌∙◌, arith}
use Rattle.std.specs.Prelude.{true, nat_le, ◌-◌}
use Rattle.vault_state.specs.Shelf.{versions_of}
use Rattle.vault_state.specs.Limits.{most_versions}
use Rattle.vault_state.proofs.Shelves.{few_at, le_true}
use Rattle.part_versions.specs.Rooms.{count_of}
use Rattle.part_versions.proofs.Rooms.{room_for_as_many, room_by_count}
use Rattle.part_versions.proofs.limits.has_room.Goals as goal

pub overflow_sub-room : goal.overflow_sub-room
overflow_sub-room g c = omega (arith, few_at c.args.parts.now c.args.place c.requires)

pub returns-then-drafts-room : goal.returns-then-drafts-room
returns-then-drafts-room g c =
    let few = few_at c.args.parts.now c.args.place c.requires in
    let room : length c.args.drafts.now ≤ most_versions - length (versions_of c.args.parts.now c.args.place) = omega arith in
    let test : nat_le (length c.args.drafts.now) (most_versions - c.count_in-room.result) ≡ true = le_true _ _ (omega (arith, c.if-drafts-room.true)) in
    test ∙ sym (room_for_as_many (length (versions_of c.args.parts.now c.args.place)) c.args.drafts.now c.args.place few room)

pub returns-else-drafts-room : goal.returns-else-drafts-room
returns-else-drafts-room g c =
    let few = few_at c.args.parts.now c.args.place c.requires in
    ap (λ n. nat_le n (most_versions - c.count_in-room.result)) c.count_of.ensures
    ∙ ap (λ n. nat_le (count_of c.args.drafts.now c.args.place) (most_versions - n)) c.count_in-room.ensures
    ∙ room_by_count (length (versions_of c.args.parts.now c.args.place)) (count_of c.args.drafts.now c.args.place) few
