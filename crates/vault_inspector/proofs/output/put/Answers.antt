use Rattle.std.proofs.Common.{arith}
use Rattle.std.proofs.Math.Seq.{take-add}
use Rattle.std.proofs.KnownBytes.{Appends-trans}
use Rattle.vault_inspector.proofs.output.put.Goals as goal

pub loop-done-preserved : goal.loop-done-preserved
loop-done-preserved g c = record {
  within = omega (arith, c.in-Ok.ensures.bound, c.split_at.ensures.back_len);
  written = rw take-add (Appends-trans _ _ _ _ _ c.loop-done.invariant.written (rw c.split_at.ensures.back at c.in-Ok.ensures.bytes));
}
