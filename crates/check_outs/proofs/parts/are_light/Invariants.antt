use Rattle.std.specs.Prelude.{◌≡◌, ◌+◌, drop, sum_by}
use Rattle.vault_state.specs.Limits.{most_weight}
use Rattle.vault_state.specs.Shelf.{weight, drafts_weight}
use Rattle.check_outs.proofs.parts.are_light.Given as goal

-- the room that is left, with the drafts that are left
abbrev pub invariant-loop-own : goal.invariant-loop-own
invariant-loop-own g l = l.room + weight l.shelf + sum_by drafts_weight l.drafts ≡ most_weight + sum_by drafts_weight (drop l.own-index l.drafts)
