use Rattle.std.proofs.Common.{inl}
use Rattle.vaultd_files.proofs.two_vaults.refuse_two_vaults.Goals as goal

pub returns-in-Ok-false-clause-pass : goal.returns-in-Ok-false-clause-pass
returns-in-Ok-false-clause-pass g c = λ one other passed. inl (λ are. let wrong = (c.in-Ok-false.ensures.two one other).1 are in absurd (cc))
