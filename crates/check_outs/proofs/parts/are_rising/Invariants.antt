use Rattle.std.specs.Prelude.{take}
use Rattle.check_outs.specs.CheckOuts.{IsRising}
use Rattle.check_outs.proofs.parts.are_rising.Given as goal

-- those so far rise
abbrev pub invariant-loop-index : goal.invariant-loop-index
invariant-loop-index g l = IsRising (take l.index l.drafts)
