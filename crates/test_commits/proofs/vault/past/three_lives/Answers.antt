use Rattle.std.proofs.Common.{ℕ, suc, ◌∷◌, refl, ap}
use Rattle.test_commits.proofs.vault.past.three_lives.Goals as goal

pub returns : goal.returns
returns g c =
    let b = c.first_life-vault.ensures in
    let n = c.stopped-vault.ensures b.0 b.1 in
    let t = c.told-late.ensures.past (c.first_life-vault.result.0 ∷ b.0) n in
    let past = c.told-late.new.vault ∷ t.1 ∷ t.0 ∷ c.stopped-vault.result ∷ c.first_life-vault.result.0 ∷ b.0 in
    let is = c.stopped-next.ensures (t.1 ∷ t.0 ∷ c.stopped-vault.result ∷ c.first_life-vault.result.0 ∷ b.0) t.2 in (
      past,
      is,
      ap (λ (n : ℕ). suc (suc (suc (suc (suc n))))) b.2,
      c.receipts_are_found_again.ensures past is 5 c.first_life-vault.result.0 c.first_life-vault.result.1 refl b.3,
      c.receipts_are_found_again.ensures past is 1 c.told-late.new.vault c.told-late.result refl c.told-late.ensures.receipt,
    )
