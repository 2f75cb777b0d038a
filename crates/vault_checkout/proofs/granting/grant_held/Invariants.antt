use Rattle.std.specs.Prelude.{◌≡◌, ◌++◌, List, take, drop, map}
use Rattle.vault_state.specs.declared.place.Place.{Place}
use Rattle.vault_state.specs.Tree.{IsTree}
use Rattle.long_locks.specs.Lines.{IsGrownFrom}
use Rattle.check_outs.specs.Typed.{granted}
use Rattle.vault_checkout.proofs.granting.grant_held.Given as goal

-- those so far are done
abbrev pub invariant-loop-check_out : goal.invariant-loop-check_out
invariant-loop-check_out g l = (tree : List Place) → IsTree tree → IsGrownFrom l.line.tree tree → l.check_out-items ≡ map (granted tree l.line.claims) (take l.check_out-index l.fn.check_outs.items) ++ drop l.check_out-index l.fn.check_outs.items
