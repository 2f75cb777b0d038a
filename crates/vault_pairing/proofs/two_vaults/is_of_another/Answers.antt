use Rattle.std.proofs.Common.{ℕ, ◌+◌, ◌≡◌, arith, subst}
use Rattle.std.proofs.lemmas.Result.{IfOk-weaker}
use Rattle.vault_format.specs.Files.{HasRightHead}
use Rattle.vault_store.proofs.Steps.{no_reads}
use Rattle.vault_store.proofs.TwoVaults.{far_apart, next_to}
use Rattle.vault_pairing.proofs.two_vaults.is_of_another.Goals as goal

pub returns-then-apart-gt1-clause-another : goal.returns-then-apart-gt1-clause-another
returns-then-apart-gt1-clause-another g c = λ honest other head head_newer.
    far_apart (g.D.Device.disk c.args.older.now).shown (g.D.Device.disk c.args.newer.now).shown c.args.generations.0 c.args.generations.1 head head_newer (omega (arith, c.if-apart-gt1.true, c.requires))

pub returns-then-apart-gt1-clause-older : goal.returns-then-apart-gt1-clause-older
returns-then-apart-gt1-clause-older g c = no_reads (g.D.Device.disk c.args.older.now)

pub returns-then-apart-gt1-clause-newer : goal.returns-then-apart-gt1-clause-newer
returns-then-apart-gt1-clause-newer g c = no_reads (g.D.Device.disk c.args.newer.now)

pub returns-clause-another : goal.returns-clause-another
returns-clause-another g c = λ honest other head head_newer.
    let next : c.args.generations.1 ≡ c.args.generations.0 + 1 = omega (arith, c.if-apart-gt1.false, c.requires) in
    IfOk-weaker c.is_unrelated.result _ _
    (λ is decides. next_to (g.D.Device.disk c.args.older.now).shown (g.D.Device.disk c.args.newer.now).shown c.args.generations.0 c.args.generations.1 is head head_newer next decides)
    (c.is_unrelated.ensures.unrelated honest other c.args.generations.0 head (subst (λ (k : ℕ). HasRightHead k (g.D.Device.disk c.args.newer.now).shown) next head_newer))
