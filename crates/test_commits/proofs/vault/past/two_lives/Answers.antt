use Rattle.std.proofs.Common.{ℕ, suc, ◌∷◌, refl, ap}
use Rattle.test_commits.proofs.vault.past.two_lives.Goals as goal

pub returns : goal.returns
returns g c =
    let b = c.first_life-vault.ensures in
    let past = c.first_life-vault.result.0 ∷ b.0 in
    let is = c.next_life-next.ensures b.0 b.1 in
    (past, is, ap (λ (n : ℕ). suc n) b.2, c.receipts_are_found_again.ensures past is 1 c.first_life-vault.result.0 c.first_life-vault.result.1 refl b.3)
