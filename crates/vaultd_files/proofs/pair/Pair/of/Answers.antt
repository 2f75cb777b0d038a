use Rattle.std.proofs.Common.{refl}
use Rattle.vaultd_files.proofs.Apart.{apart}
use Rattle.vaultd_files.proofs.pair.Pair.of.Goals as goal

pub invariant_of-result : goal.invariant_of-result
invariant_of-result g c = record {
  apart = apart _ _ _ _ c.in-Ok.ensures.first c.in-Ok.ensures.second (λ first second. c.in-Ok.ensures.pass first second refl);
}
