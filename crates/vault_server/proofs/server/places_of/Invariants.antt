use Rattle.std.proofs.Common.{◌≡◌, ◌+◌, ◌≤◌, vec_len, vec_capacity}
use Rattle.std.specs.Prelude.{All}
use Rattle.vault_server.proofs.server.places_of.Given as goal

-- the shares that are left counted nothing, and there is room for a place for each
abbrev pub invariant-loop-share : goal.invariant-loop-share
invariant-loop-share g l =
    All (λ share. (share.staged ≡ 0) × (share.told ≡ 0)) l.shares.items
    × (vec_len l.places + vec_len l.shares ≤ vec_capacity l.places)

abbrev pub decreases-loop-share : goal.decreases-loop-share
decreases-loop-share g l = vec_len l.shares
