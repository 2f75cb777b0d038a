use Rattle.std.proofs.Common.{◌≡◌, drop}
use Rattle.std.specs.List.{list_any}
use Rattle.long_locks.specs.InLine.{is_in_line}
use Rattle.long_locks.proofs.looking.are_in_line.Given as goal

-- the items that are left give the answer of all
abbrev pub invariant-loop-item : goal.invariant-loop-item
invariant-loop-item g l = list_any (is_in_line l.tree l.place) (drop l.item-index l.items) ≡ list_any (is_in_line l.tree l.place) l.items
