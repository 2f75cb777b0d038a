use Rattle.std.proofs.Common.{arith, rules}
use Rattle.vault_device.proofs.Since.{leads_room, cover_wrote, cover_synced, cover_crashed}
use Rattle.vault_device.proofs.memory.cover_all.Goals as goal
use Rattle.vault_device.proofs.memory.cover_all.Goals.{in-Wrote, in-Synced, in-Crashed}

pub cover-requires-clause-room : goal.cover-requires-clause-room
cover-requires-clause-room g c =
    let room = leads_room _ c.args.total c.in-Wrote.at c.in-Wrote.text c.args.events.now c.loop-event.event-index c.event-item.result c.loop-event-test.true c.event-item.is c.in-Wrote.is c.loop-event.invariant.0 in
    omega (arith, room, c.loop-event.invariant.1, c.len.ensures)

pub loop-event-preserved : goal.loop-event-preserved
loop-event-preserved g c = elim c.match-event.branch [
  | in-Wrote w ↦
      let all = cover_wrote c.args.b c.args.total w.in-Wrote.at w.in-Wrote.text c.args.events.now c.loop-event.event-index c.event-item.result c.loop-event.all.items c.match-event.all.items _ c.loop-event-test.true c.event-item.is w.in-Wrote.is
      (search rules) c.loop-event.invariant.0 c.loop-event.invariant.2 in
      (all.0, search rules, all.1)
  | in-Synced w ↦
      let all = cover_synced c.args.b c.args.total c.args.events.now c.loop-event.event-index c.event-item.result c.loop-event.all.items c.match-event.all.items _ c.loop-event-test.true c.event-item.is w.in-Synced.is
      (search rules) c.loop-event.invariant.0 c.loop-event.invariant.2 in
      (all.0, search rules, all.1)
  | in-Crashed w ↦
      let all = cover_crashed c.args.b c.args.total w.in-Crashed.field-0 c.args.events.now c.loop-event.event-index c.event-item.result c.loop-event.all.items c.match-event.all.items _ c.loop-event-test.true c.event-item.is w.in-Crashed.is
      (search rules) c.loop-event.invariant.0 c.loop-event.invariant.2 in
      (all.0, search rules, all.1)
]
