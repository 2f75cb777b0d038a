use Rattle.std.specs.Prelude.{◌≤◌, length}
use Rattle.std.proofs.Common.{ap, sym, ◌∙◌, subst}
use Rattle.std.proofs.Math.Nat.{le_refl}
use Rattle.vault_state.specs.Limits.{most_claims}
use Rattle.lock_table.proofs.Shorts.{emptied_next, emptied_all}
use Rattle.lock_table.proofs.queues.take_short_out.Goals as goal

pub take_short_out_at-requires : goal.take_short_out_at-requires
take_short_out_at-requires g c =
    let same = ap length (c.loop-index.invariant.left c.loop-index.index (le_refl c.loop-index.index)) in
    record { few = subst (λ n. n ≤ most_claims) (sym same) (c.requires c.loop-index.index) }

pub loop-index-preserved : goal.loop-index-preserved
loop-index-preserved g c =
    let now = c.take_short_out_at.ensures in
    emptied_next c.args.queues.now.items c.loop-index.queues.items c.take_short_out_at.new.queues.items c.loop-index.index c.loop-index.invariant now.here now.elsewhere now.room

pub returns-clause-requests : goal.returns-clause-requests
returns-clause-requests g c =
    let start = c.args.queues.now in
    emptied_all start.items c.loop-index.queues.items c.loop-index.index c.loop-index.invariant (subst (λ n. n ≤ c.loop-index.index) (c.len-index-end.ensures ∙ start.ok.0) c.loop-index-test.false)

pub returns-clause-room : goal.returns-clause-room
returns-clause-room g c = c.loop-index.invariant.room
