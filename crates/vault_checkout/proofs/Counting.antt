-- Counts of commands, through changes of other things.
use Rattle.std.specs.Prelude.{◌≡◌, ℕ, ◌+◌, ◌<◌, ◌++◌, ◌∷◌, []}
use Rattle.std.proofs.Common.{arith}
use Rattle.std.proofs.lemmas.List.Elements.{All-weaker, All-push}
use Rattle.vault_state.specs.declared.session.Session.{Session}
use Rattle.vault_state.specs.Vault.{Vault, CountsBelow}

-- at the door
pub counts_door : (bound : ℕ) (v : Vault) → CountsBelow bound v → CountsBelow (bound + 1) (record v { door_count = v.door_count + 1 })
counts_door bound v h = record {
  door = let low = h.door in omega arith;
  each = All-weaker (λ (s : Session). s.count < bound) (λ (s : Session). s.count < bound + 1) (λ s low. omega arith) v.sessions h.each;
}

-- a session that has given none
pub counts_joined : (bound : ℕ) (v : Vault) (s : Session) (last : ℕ) → s.count ≡ 0 → CountsBelow bound v → CountsBelow bound (record v { sessions = v.sessions ++ s ∷ []; last_session = last })
counts_joined bound v s last none h = record { door = h.door; each = All-push (λ (t : Session). t.count < bound) v.sessions s h.each (let low = h.door in omega arith) }
