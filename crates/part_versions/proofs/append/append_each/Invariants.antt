use Rattle.std.specs.Prelude.{◌≡◌, take}
use Rattle.vault_state.specs.Shelf.{shelved_all}
use Rattle.part_versions.proofs.append.append_each.Given as goal

abbrev pub invariant-loop-done : goal.invariant-loop-done
invariant-loop-done g l = l.parts.items ≡ shelved_all l.fn.parts.items (take l.done l.drafts)
