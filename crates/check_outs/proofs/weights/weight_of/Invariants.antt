use Rattle.std.specs.Prelude.{◌≡◌, ◌+◌, drop}
use Rattle.vault_state.specs.Shelf.{drafts_weight}
use Rattle.check_outs.proofs.weights.weight_of.Given as goal

-- the sum so far, with what is left
abbrev pub invariant-loop-draft : goal.invariant-loop-draft
invariant-loop-draft g l = l.sum + drafts_weight (drop l.draft-index l.drafts) ≡ drafts_weight l.drafts
