use Rattle.std.proofs.Common.{ℕ, suc, ◌∷◌, refl, ap}
use Rattle.test_commits.proofs.vault.past.inside_a_pump.Goals as goal

pub returns : goal.returns
returns g c =
    let b = c.first_life-vault.ensures in
    let u = c.under_way.ensures b.0 b.1 in
    let past = c.under_way.new.vault ∷ u.2 ∷ u.1 ∷ u.0 ∷ c.first_life-vault.result.0 ∷ b.0 in
    let is = c.stopped_in_a_pump-next.ensures (u.2 ∷ u.1 ∷ u.0 ∷ c.first_life-vault.result.0 ∷ b.0) u.3 in
    (past, is, ap (λ (n : ℕ). suc (suc (suc (suc (suc n))))) b.2, c.receipts_are_found_again.ensures past is 5 c.first_life-vault.result.0 c.first_life-vault.result.1 refl b.3)
