use Rattle.std.specs.Prelude.{◌≡◌, take}
use Rattle.check_outs.proofs.copy.copy_drafts.Given as goal

-- those so far are copied
abbrev pub invariant-loop-draft : goal.invariant-loop-draft
invariant-loop-draft g l = l.copies.items ≡ take l.draft-index l.drafts
