use Rattle.std.proofs.Common.{◌≡◌, drop}
use Rattle.vault_format.specs.Files.{applied}
use Rattle.vault_store.proofs.journal.make_each.Given as goal

abbrev pub invariant-loop-effect : goal.invariant-loop-effect
invariant-loop-effect g l = applied l.fn.book l.effects ≡ applied l.book (drop l.effect-index l.effects)
