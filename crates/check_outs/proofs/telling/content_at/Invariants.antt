use Rattle.std.proofs.Common.{◌≡◌, drop}
use Rattle.vault_state.specs.Drafts.{content_at}
use Rattle.check_outs.proofs.telling.content_at.Given as goal

-- the drafts that are left give the answer of all
abbrev pub invariant-loop-draft : goal.invariant-loop-draft
invariant-loop-draft g l = content_at (drop l.draft-index l.drafts) l.place ≡ content_at l.drafts l.place
