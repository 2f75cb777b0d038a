use Rattle.std.proofs.Common.{◌≡◌, ◌++◌, drop, map}
use Rattle.vault_state.specs.Tree.{path_of}
use Rattle.vault_state.specs.Shelf.{Draft}
use Rattle.check_outs.proofs.telling.paths_of.Given as goal

-- the paths so far, and those of the drafts that are left
abbrev pub invariant-loop-draft : goal.invariant-loop-draft
invariant-loop-draft g l =
    l.told.items ++ map (λ (x : Draft). path_of l.tree x.place) (drop l.draft-index l.drafts) ≡ map (λ (x : Draft). path_of l.tree x.place) l.drafts
