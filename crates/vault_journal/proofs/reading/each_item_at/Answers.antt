use Rattle.std.proofs.Common.{◌∷◌, [], arith, length-append}
use Rattle.vault_journal.specs.Reading.{each_item_at}
use Rattle.vault_journal.proofs.ItemLoop.{goes_on, ends, is_done}
use Rattle.vault_journal.proofs.reading.each_item_at.Goals as goal

pub returns-in_default : goal.returns-in_default
returns-in_default c = ends c.loop.items c.args.count c.loop.counter c.loop.rest.now (each_item_at c.args.count c.args.bytes.now) c.loop-test.true c.in_default.ensures c.loop.invariant.1

pub loop-preserved : goal.loop-preserved
loop-preserved c =
    rw c.push.ensures (
      omega (arith, c.loop.invariant.0, length-append c.loop.items (c.in-Some.item ∷ [])),
      goes_on c.loop.items c.args.count c.loop.counter c.loop.rest.now c.in-Some.item c.in-Some.after.now (each_item_at c.args.count c.args.bytes.now) c.loop-test.true c.in-Some.ensures c.loop.invariant.1,
    )

pub returns : goal.returns
returns c = is_done c.loop.items c.args.count c.loop.counter c.loop.rest.now (each_item_at c.args.count c.args.bytes.now) c.loop-test.false c.loop.invariant.1
