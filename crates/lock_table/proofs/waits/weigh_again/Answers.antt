use Rattle.std.specs.Prelude.{length}
use Rattle.std.proofs.Common.{ap, ◌∙◌, arith}
use Rattle.std.proofs.lemmas.List.{length-map}
use Rattle.lock_table.proofs.Stale.{done_blockers, done_queues}
use Rattle.lock_table.proofs.waits.weigh_again.Goals as goal

pub loop-index-init : goal.loop-index-init
loop-index-init g c = record {
  weighing = c.requires.weighing;
  many = ap length c.requires.weighing.were ∙ length-map c.args.entries.now c.requires.weighing.old;
  room = λ p. omega arith;
}

pub loop-index-preserved : goal.loop-index-preserved
loop-index-preserved g c = record {
  weighing = c.weigh_next.ensures.weighing;
  many = c.weigh_next.ensures.many;
  room = λ p. let before = c.loop-index.invariant.room p in let after = c.weigh_next.ensures.room p in omega (arith, before, after);
}

pub returns-clause-blockers : goal.returns-clause-blockers
returns-clause-blockers g c = done_blockers c.args.again c.args.entries.now c.loop-index.blockers.items c.loop-index.queues.items c.loop-index.index c.loop-index.invariant.weighing c.loop-index-test.false

pub returns-clause-queues : goal.returns-clause-queues
returns-clause-queues g c = done_queues c.args.again c.args.entries.now c.loop-index.blockers.items c.loop-index.queues.items c.loop-index.index c.loop-index.invariant.weighing c.loop-index-test.false

pub returns-clause-room : goal.returns-clause-room
returns-clause-room g c = c.loop-index.invariant.room
