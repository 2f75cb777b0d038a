use Rattle.std.proofs.Common.{[], ◌∷◌, refl}
use Rattle.test_commits.proofs.vault.past.first_life.Goals as goal

pub returns : goal.returns
returns g c =
    let t = c.told-receipt.ensures.past [] c.begun-vault.ensures in
    (t.1 ∷ t.0 ∷ c.begun-vault.result ∷ [], t.2, refl, c.told-receipt.ensures.receipt)
