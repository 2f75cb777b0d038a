use Rattle.std.proofs.Common.{◌≡◌, ◌+◌, vec_len, vec_capacity, ◌≤◌}
use Rattle.std.specs.Prelude.{All}
use Rattle.vault_desk.proofs.shared.cut.Given as goal

abbrev pub invariant-loop-i : goal.invariant-loop-i
invariant-loop-i g l =
    (l.staged.parts + l._i ≡ l.workers + 1)
    × (l.told.parts + l._i ≡ l.workers + 1)
    × (l.staged.amount ≡ 0)
    × (l.told.amount ≡ 0)
    × (vec_len l.shares ≡ l._i)
    × (l.workers ≤ vec_capacity l.shares)
    × All (λ s. (s.staged ≡ 0) × (s.told ≡ 0)) l.shares.items
