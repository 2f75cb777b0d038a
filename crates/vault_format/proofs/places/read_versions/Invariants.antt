use Rattle.vault_format.proofs.VersionsRead.{AreReadSo}
use Rattle.vault_format.proofs.places.read_versions.Given as goal

abbrev pub invariant-loop : goal.invariant-loop
invariant-loop g l = AreReadSo l.counter l.part l.fn.shelf l.shelf l.initial.rest l.rest
