use Rattle.vault_format.specs.Places.{AreContentsAt}
use Rattle.vault_format.proofs.places.behind_versions.Given as goal

abbrev pub invariant-loop : goal.invariant-loop
invariant-loop l = AreContentsAt l.counter l.initial.rest l.rest
