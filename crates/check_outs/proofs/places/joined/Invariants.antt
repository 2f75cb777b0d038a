use Rattle.std.proofs.Common.{◌≡◌, ◌++◌, take}
use Rattle.check_outs.proofs.places.joined.Given as goal

-- the items so far come after the first ones
abbrev pub invariant-loop-item : goal.invariant-loop-item
invariant-loop-item l = l.joined ≡ l.fn.items ++ take l.item-index l.item-items
