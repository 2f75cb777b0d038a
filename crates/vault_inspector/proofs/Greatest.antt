-- The greatest value of a figure over the first things, one more at a time.
use Rattle.std.proofs.Common.{◌≡◌, inl, inr, ℕ, ◌+◌, ◌<◌, ◌≤◌, ◌⊎◌, refl, sym, ap, ◌∙◌, subst, arith}
use Rattle.std.proofs.lemmas.Bool.{cases_lt}
use Rattle.vault_inspector.specs.Figures.{IsGreatest}

pub greatest_none : (figure : ℕ → ℕ) → IsGreatest figure 0 0
greatest_none figure = record { bound = λ n less. absurd (omega (arith, less)); reached = inl refl }

module _ (figure : ℕ → ℕ) (count most here : ℕ) (so_far : IsGreatest figure count most) (is : here ≡ figure count) where
  pub greatest_raised : most < here → IsGreatest figure (count + 1) here
  greatest_raised more = record { bound = bound; reached = inr (count, within, sym is) }
    where
      within : count < count + 1
      within = omega arith

      bound : (n : ℕ) → n < count + 1 → figure n ≤ here
      bound n less = by_order (cases_lt n count)
        where
          by_order : (n < count) ⊎ (count ≤ n) → figure n ≤ here
          by_order (inl before) = let old = so_far.bound n before in omega (arith, old, more)
          by_order (inr behind) =
              let same : count ≡ n = omega (arith, less, behind) in
              let own : here ≡ figure n = is ∙ ap figure same in
              omega (arith, own)

  pub greatest_kept : here ≤ most → IsGreatest figure (count + 1) most
  greatest_kept fewer = record { bound = bound; reached = reached so_far.reached }
    where
      bound : (n : ℕ) → n < count + 1 → figure n ≤ most
      bound n less = by_order (cases_lt n count)
        where
          by_order : (n < count) ⊎ (count ≤ n) → figure n ≤ most
          by_order (inl before) = so_far.bound n before
          by_order (inr behind) =
              let same : count ≡ n = omega (arith, less, behind) in
              let own : here ≡ figure n = is ∙ ap figure same in
              omega (arith, own, fewer)

      reached : (most ≡ 0) ⊎ ((n : ℕ) × (n < count) × (figure n ≡ most)) → (most ≡ 0) ⊎ ((n : ℕ) × (n < count + 1) × (figure n ≡ most))
      reached (inl none) = inl none
      reached (inr at) = let first = at.1 in inr (at.0, omega (arith, first), at.2)
