-- The numbers of a life stay in order over the phase table.
use Rattle.std.specs.Prelude.{nat_le, Bool, true, false, cond}
use Rattle.std.proofs.Common.{◌≡◌, ◌≢◌, ◌-◌, ℕ, ◌≤◌, true, false, cond, refl, arith}
use Rattle.vault_store.specs.declared.phase.Phase.{Phase}
use Rattle.vault_store.specs.declared.phase.Phase.TheVariants.{Idle, Written, Bodied, Opening, Start, Closing, Writing, Filled, Ready, SnapOpening}
use Rattle.vault_store.specs.Phases.{Waiting, Nothing, NoEffects, Effects, DeviceCall, NoCall, Write, Sync, row, settled_by, after_fault, is_idle, most_piece}
use Rattle.group_commit.specs.Phases.{InOrder}

-- a commit or a snapshot goes on
goes_on : {all retired settled sealed : ℕ} (phase next : Phase) → is_idle phase ≡ false → InOrder all retired settled sealed phase → InOrder all retired settled sealed next
goes_on phase next busy o = record { retired_settled = o.retired_settled; settled_all = o.settled_all; sealed_all = o.sealed_all; sealing = λ _. o.sealing busy }

-- it begins, and seals
begins : {all retired settled sealed : ℕ} (phase next : Phase) → InOrder all retired settled sealed phase → InOrder all retired settled all next
begins phase next o = record { retired_settled = o.retired_settled; settled_all = o.settled_all; sealed_all = omega arith; sealing = λ _. o.settled_all }

-- it ends, and what is sealed becomes durable
ends : {all retired settled sealed : ℕ} (phase : Phase) → is_idle phase ≡ false → InOrder all retired settled sealed phase → InOrder all retired sealed sealed Idle
ends phase busy o = record { retired_settled = omega (arith, o.retired_settled, o.sealing busy); settled_all = o.sealed_all; sealed_all = o.sealed_all; sealing = λ e. absurd (cc) }

-- all becomes durable without a commit
settles : {all retired settled sealed : ℕ} (phase : Phase) → InOrder all retired settled sealed phase → InOrder all retired all sealed Idle
settles phase o = record { retired_settled = omega (arith, o.retired_settled, o.settled_all); settled_all = omega arith; sealed_all = o.sealed_all; sealing = λ e. absurd (cc) }

-- nothing is under way any more
rests : {all retired settled sealed : ℕ} (phase : Phase) → InOrder all retired settled sealed phase → InOrder all retired settled sealed Idle
rests phase o = record { retired_settled = o.retired_settled; settled_all = o.settled_all; sealed_all = o.sealed_all; sealing = λ e. absurd (cc) }

-- the order after a row of the table
pub order_row : (all retired settled sealed : ℕ) (phase : Phase) (waiting : Waiting) (length : ℕ) → InOrder all retired settled sealed phase →
    let r = row phase waiting length in InOrder all retired (settled_by r.settles settled sealed all) (cond r.seals all sealed) r.next
order_row all retired settled sealed Idle Nothing length o = o
order_row all retired settled sealed Idle NoEffects length o = settles Idle o
order_row all retired settled sealed Idle Effects length o = begins Idle Written o
order_row all retired settled sealed Written waiting length o = goes_on Written Bodied refl o
order_row all retired settled sealed Bodied waiting length o = goes_on Bodied Opening refl o
order_row all retired settled sealed Opening waiting length o = ends Opening refl o
order_row all retired settled sealed Start waiting length o = goes_on Start Closing refl o
order_row all retired settled sealed Closing waiting length o = goes_on Closing _ refl o
order_row all retired settled sealed (Writing left) waiting length o = goes_on (Writing left) _ refl o
order_row all retired settled sealed Filled waiting length o = goes_on Filled Ready refl o
order_row all retired settled sealed Ready waiting length o = goes_on Ready SnapOpening refl o
order_row all retired settled sealed SnapOpening waiting length o = ends SnapOpening refl o

-- the order where a row moves on and makes nothing durable yet
order_next : (all retired settled sealed : ℕ) (phase : Phase) (waiting : Waiting) (length : ℕ) → InOrder all retired settled sealed phase →
    let r = row phase waiting length in InOrder all retired settled (cond r.seals all sealed) r.next
order_next all retired settled sealed Idle Nothing length o = o
order_next all retired settled sealed Idle NoEffects length o = o
order_next all retired settled sealed Idle Effects length o = begins Idle Written o
order_next all retired settled sealed Written waiting length o = goes_on Written Bodied refl o
order_next all retired settled sealed Bodied waiting length o = goes_on Bodied Opening refl o
order_next all retired settled sealed Opening waiting length o = rests Opening o
order_next all retired settled sealed Start waiting length o = goes_on Start Closing refl o
order_next all retired settled sealed Closing waiting length o = goes_on Closing _ refl o
order_next all retired settled sealed (Writing left) waiting length o = goes_on (Writing left) _ refl o
order_next all retired settled sealed Filled waiting length o = goes_on Filled Ready refl o
order_next all retired settled sealed Ready waiting length o = goes_on Ready SnapOpening refl o
order_next all retired settled sealed SnapOpening waiting length o = rests SnapOpening o

-- the order after a failed row
pub order_fault : (all retired settled sealed : ℕ) (phase : Phase) (waiting : Waiting) (length : ℕ) → InOrder all retired settled sealed phase →
    let r = row phase waiting length in InOrder all retired settled (after_fault r.call sealed (cond r.seals all sealed)) (after_fault r.call phase r.next)
order_fault all retired settled sealed phase waiting length o = by_call (row phase waiting length).call
  where
    by_call : (call : DeviceCall) → let r = row phase waiting length in InOrder all retired settled (after_fault call sealed (cond r.seals all sealed)) (after_fault call phase r.next)
    by_call NoCall = o
    by_call Write = order_next all retired settled sealed phase waiting length o
    by_call Sync = o

-- the order after the start of a snapshot
pub order_start : (all retired settled sealed : ℕ) (phase : Phase) → InOrder all retired settled sealed phase → InOrder all retired settled all Start
order_start all retired settled sealed phase o = begins phase Start o

-- after a row no fewer entries are durable than before
pub more_settled : (all retired settled sealed : ℕ) (phase : Phase) (waiting : Waiting) (length : ℕ) → InOrder all retired settled sealed phase
    → settled ≤ settled_by (row phase waiting length).settles settled sealed all
more_settled all retired settled sealed Idle Nothing length o = omega arith
more_settled all retired settled sealed Idle NoEffects length o = o.settled_all
more_settled all retired settled sealed Idle Effects length o = omega arith
more_settled all retired settled sealed Written waiting length o = omega arith
more_settled all retired settled sealed Bodied waiting length o = omega arith
more_settled all retired settled sealed Opening waiting length o = o.sealing refl
more_settled all retired settled sealed Start waiting length o = omega arith
more_settled all retired settled sealed Closing waiting length o = omega arith
more_settled all retired settled sealed (Writing left) waiting length o = omega arith
more_settled all retired settled sealed Filled waiting length o = omega arith
more_settled all retired settled sealed Ready waiting length o = omega arith
more_settled all retired settled sealed SnapOpening waiting length o = o.sealing refl

-- a failed call is made in a commit or a snapshot, or begins one
pub fault_is_busy : (phase : Phase) (waiting : Waiting) (length : ℕ) → let r = row phase waiting length in r.call ≢ NoCall → is_idle (after_fault r.call phase r.next) ≡ false
fault_is_busy Idle Nothing length call = absurd (call refl)
fault_is_busy Idle NoEffects length call = absurd (call refl)
fault_is_busy Idle Effects length call = refl
fault_is_busy Written waiting length call = refl
fault_is_busy Bodied waiting length call = refl
fault_is_busy Opening waiting length call = refl
fault_is_busy Start waiting length call = refl
fault_is_busy Closing waiting length call = refl
fault_is_busy (Writing left) waiting length call = by_rest (nat_le left most_piece)
  where
    by_rest : (b : Bool) → is_idle (cond b Filled (Writing (left - most_piece))) ≡ false
    by_rest true = refl
    by_rest false = refl
fault_is_busy Filled waiting length call = refl
fault_is_busy Ready waiting length call = refl
fault_is_busy SnapOpening waiting length call = refl
