use Rattle.std.specs.Prelude.{◌≡◌, ◌+◌, drop}
use Rattle.vault_state.specs.Drafts.{saved_weight}
use Rattle.check_outs.specs.Typed.{saved}
use Rattle.check_outs.proofs.weights.saved_weight.Given as goal

-- the sum so far, with what is left
abbrev pub invariant-loop-check_out : goal.invariant-loop-check_out
invariant-loop-check_out g l = l.sum + saved_weight (saved (drop l.check_out-index l.check_outs)) ≡ saved_weight (saved l.check_outs)
