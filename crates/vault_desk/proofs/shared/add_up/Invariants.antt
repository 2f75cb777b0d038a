use Rattle.std.proofs.Common.{◌≡◌, ◌+◌, vec_len, sum_by}
use Rattle.vault_desk.proofs.shared.add_up.Given as goal

abbrev pub invariant-loop-share : goal.invariant-loop-share
invariant-loop-share g l =
    (l.staged_parts.parts + vec_len l.shares ≡ g.S.Ledger.parts)
    × (l.told_parts.parts + vec_len l.shares ≡ g.T.Ledger.parts)
    × (l.staged_parts.amount ≡ l.fn.opening.staged + l.totals.staged)
    × (l.told_parts.amount ≡ l.fn.opening.told + l.totals.told)
    × (l.totals.staged + sum_by (λ s. s.staged) l.shares.items ≡ sum_by (λ s. s.staged) l.fn.shares.items)
    × (l.totals.told + sum_by (λ s. s.told) l.shares.items ≡ sum_by (λ s. s.told) l.fn.shares.items)
    × (l.staged.total ≡ l.fn.staged.total)
    × (l.told.total ≡ l.fn.told.total)

abbrev pub decreases-loop-share : goal.decreases-loop-share
decreases-loop-share g l = vec_len l.shares
