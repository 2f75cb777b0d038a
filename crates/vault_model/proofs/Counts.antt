-- A step raises each command count by at most one.
use Rattle.std.specs.Prelude.{ℕ, ◌+◌, ◌<◌, Option}
use Rattle.std.proofs.Common.{arith}
use Rattle.std.proofs.lemmas.List.Elements.{All-push, All-weaker}
use Rattle.vault_model.specs.Said.{Effect}
use Rattle.vault_state.specs.declared.session.Session.{Session}
use Rattle.vault_state.specs.Vault.{Vault, counted, CountsBelow}
use Rattle.vault_model.specs.Laws.{CountsRise}
use Rattle.vault_model.proofs.Kept.{counts_rise, counts_left}
use Rattle.vault_model.proofs.Transitions.{Transition, answered, joined, left, by_transition, by_count}

counted_low : (n bound : ℕ) (v : Vault) → CountsBelow bound v → CountsBelow (bound + 1) (counted n v)
counted_low n bound v low = by_count (CountsBelow (bound + 1)) n v (record {
  door = let h = low.door in omega arith;
  each = All-weaker (λ (s : Session). s.count < bound) (λ (s : Session). s.count < bound + 1) (λ s h. omega arith) v.sessions low.each;
}) (counts_rise n bound v low)

-- no change raises a count: a new session has given no command
transition_low : (bound : ℕ) (v : Vault) → CountsBelow bound v → (effect : Option Effect) (w : Vault) → Transition v effect w → CountsBelow bound w
transition_low bound v low effect w answered = low
transition_low bound v low effect w (joined name room unspent) = record { door = low.door; each = All-push (λ (s : Session). s.count < bound) v.sessions _ low.each (let h = low.door in omega arith) }
transition_low bound v low effect w (left session) = counts_left session bound v _ low
transition_low bound v low effect w change = record { door = low.door; each = low.each }

pub step_rises : CountsRise
step_rises bound v n command low = by_transition (λ effect w. CountsBelow (bound + 1) w) v n command (λ effect w change. counted_low n bound w (transition_low bound v low effect w change))
