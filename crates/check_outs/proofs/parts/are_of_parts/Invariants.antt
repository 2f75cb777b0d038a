use Rattle.std.specs.Prelude.{◌≡◌, ◌≢◌, ℕ, ◌<◌, true, []}
use Rattle.vault_state.specs.Tree.{is_part}
use Rattle.vault_state.specs.Shelf.{versions_of}
use Rattle.check_outs.proofs.parts.are_of_parts.Given as goal

-- the versions so far are of parts
abbrev pub invariant-loop-number : goal.invariant-loop-number
invariant-loop-number g l = (place : ℕ) → place < l.number → versions_of l.shelf place ≢ [] → is_part l.tree place ≡ true
