-- What each call did is an answer.
use Rattle.std.proofs.Common.{◌≡◌, inl, inr, Bool, true, false, refl, ap}
use Rattle.std.specs.Prelude.{Result, Ok, Err}
use Rattle.vault_device.specs.Disk.{Disk}
use Rattle.vault_device.specs.declared.device.Fault.{Fault as DeviceFault}
use Rattle.vault_store.specs.declared.phase.Advanced.{Advanced as Pumped}
use Rattle.group_commit.specs.World.{Pump, Fault, Tell}
use Rattle.group_commit.specs.Seen.{VaultSeen}
use Rattle.group_commit.specs.Ticket.{TicketSeen, Told}
use Rattle.group_commit.specs.Promises.{MomentsStand}
use Rattle.group_commit.specs.Pasts.{StopsInside, IsAnswered}
use Rattle.group_commit.proofs.Tickets.{IsTelling}
use Rattle.group_commit.proofs.Pumps.{IsPump}

pub telling_is_answered : {D : Type 0} {old new : VaultSeen D} {claim : TicketSeen} {receipt : Told} → IsTelling old new claim receipt → IsAnswered old new
telling_is_answered {claim = claim} t = inr (Tell claim.position, record { allowed = t.1; made = ap (λ (s : VaultSeen _). s.view) t.2; life = ap (λ (s : VaultSeen _). s.life) t.2 })

pub pump_is_answered : {D : Type 0} {disk : D → Disk} {old new : VaultSeen D} {result : Result Pumped DeviceFault} → IsPump disk old new result → IsAnswered old new
pump_is_answered {D} {disk} {old} {new} {result} p = by_broken old.view.broken refl
  where
    by_result : (r : Result Pumped DeviceFault) → old.view.broken ≡ false → IsPump disk old new r → IsAnswered old new
    by_result (Ok answer) whole q = inr (Pump, record { allowed = whole; made = q.pumped whole; life = q.life })
    by_result (Err why) whole q = inr (Fault, record { allowed = q.failed.0; made = q.failed.1; life = q.life })

    by_broken : (b : Bool) → old.view.broken ≡ b → IsAnswered old new
    by_broken true e = inl (p.broken e).1
    by_broken false e = by_result result e p

pub stops_inside : {D : Type 0} {disk : D → Disk} {old : VaultSeen D} (new : VaultSeen D) → old.view.broken ≡ false → MomentsStand disk old new → StopsInside disk old new
stops_inside new whole moments = λ x y honest left. record { other = new; whole = whole; honest = honest; moments = moments; left = left }

pub pump_stops : {D : Type 0} {disk : D → Disk} {old new : VaultSeen D} {result : Result Pumped DeviceFault} → IsPump disk old new result → old.view.broken ≡ false → StopsInside disk old new
pump_stops {new = new} p whole = stops_inside new whole (p.moments whole)
