use Rattle.std.proofs.Common.{◌≡◌, ◌≤◌, length, drop, vec_capacity}
use Rattle.vault_device.specs.Memory.{covered, LeadsTo}
use Rattle.vault_device.proofs.memory.cover_all.Given as goal

abbrev pub invariant-loop-event : goal.invariant-loop-event
invariant-loop-event g l =
    LeadsTo (length l.all.items) l.total (drop l.event-index l.events) × (l.total ≤ vec_capacity l.all)
    × (covered l.b (drop l.event-index l.events) l.all.items ≡ covered l.b l.events l.fn.all.items)
