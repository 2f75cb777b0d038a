use Rattle.std.specs.Prelude.{◌≡◌, take}
use Rattle.check_outs.proofs.copy.copy_check_outs.Given as goal

-- those so far are copied
abbrev pub invariant-loop-check_out : goal.invariant-loop-check_out
invariant-loop-check_out g l = l.copies.items ≡ take l.check_out-index l.check_outs
