use Rattle.std.proofs.Common.{◌≡◌, ◌++◌, take}
use Rattle.std.specs.List.{flat_map}
use Rattle.vault_format.specs.Snapshot.{draft_bytes}
use Rattle.vault_format.proofs.fields.put_each_draft.Given as goal

abbrev pub invariant-loop-draft : goal.invariant-loop-draft
invariant-loop-draft g l = l.out.items ≡ l.initial.out.items ++ flat_map draft_bytes (take l.draft-index l.drafts)
