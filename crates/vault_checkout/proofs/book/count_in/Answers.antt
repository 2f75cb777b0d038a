use Rattle.std.proofs.lemmas.List.Edits.{map_over_more}
use Rattle.vault_state.specs.Vault.{one_more}
use Rattle.vault_checkout.proofs.book.count_in.Goals as goal

pub loop-session-preserved : goal.loop-session-preserved
loop-session-preserved g c =
    rw (c.count_one.ensures, ← c.session-item.is)
    (map_over_more (one_more c.args.number) c.args.sessions.now.items c.loop-session.session-items c.loop-session.session-index c.session-item.result (rw c.deref_mut-session-items.ensures.value at c.loop-session-test.true) c.loop-session.invariant c.session-item.is)
