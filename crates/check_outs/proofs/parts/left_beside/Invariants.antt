use Rattle.std.specs.Prelude.{◌≡◌, ◌+◌, drop}
use Rattle.vault_state.specs.Shelf.{drafts_weight}
use Rattle.check_outs.proofs.parts.left_beside.Given as goal

-- what is left, with the drafts that are left
abbrev pub invariant-loop-draft : goal.invariant-loop-draft
invariant-loop-draft g l = l.left + drafts_weight l.drafts ≡ l.room + drafts_weight (drop l.draft-index l.drafts)
