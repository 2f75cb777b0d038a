use Rattle.std.proofs.Common.{◌≡◌, true, is_some, sym, refl}
use Rattle.vault_state.specs.Vault.{session_of}
use Rattle.vault_model.proofs.Kept.{kept_asked_short}
use Rattle.long_locks.proofs.Grown.{grown_itself}
use Rattle.vault_checkout.specs.Seen.{vault_of}
use Rattle.vault_checkout.proofs.Agreeing.{agrees_held}
use Rattle.vault_checkout.proofs.Following.{follows_refused}
use Rattle.vault_checkout.proofs.Wanting.{hold_refused, hold_in_vain, told_hold}
use Rattle.vault_checkout.proofs.book.Book.hold.Goals as goal

pub returns-in_err-items-clause-told : goal.returns-in_err-items-clause-told
returns-in_err-items-clause-told g c =
    follows_refused c.args.self.now c.from_residual.result c.in_err-items.field-0.0 _ c.from_residual.ensures.1
    (rw (← c.self.view_is) (hold_refused (vault_of c.self.inside) c.args.session.now c.args.wanted.now c.len.result c.last_short.result c.len.ensures c.last_short.ensures c.in_err-items.field-0.0 c.in_err-items.ensures.decided))

pub invariant_of-self-2 : goal.invariant_of-self-2
invariant_of-self-2 g c =
    let stands : is_some (session_of c.self.inside.sessions.items c.args.session.now.number) ≡ true = rw (← c.self.view_is) at c.requires in
    rw c.in_ok-standing.ensures.asked (
      kept_asked_short (vault_of c.self.inside) c.self.invariant.0 c.args.session.now.number c.in_ok-items.items stands (rw c.last_short.ensures at c.in_ok-items.ensures.number) (rw c.len.ensures at c.in_ok-items.ensures.room) c.in_ok-items.ensures.some c.in_ok-items.ensures.few c.in_ok-items.ensures.there,
      grown_itself c.self.inside.tree,
      agrees_held (vault_of c.self.inside) c.self.invariant.0 c.self.inside.check_outs.items c.self.invariant.2 _ _ refl,
    )

pub returns-in_err-standing-clause-told : goal.returns-in_err-standing-clause-told
returns-in_err-standing-clause-told g c =
    rw (← c.self.view_is, c.in_err-standing.ensures.unchanged)
    (hold_in_vain (vault_of c.self.inside) c.args.session.now c.args.wanted.now c.len.result c.last_short.result c.len.ensures c.last_short.ensures c.in_ok-items.items c.from_residual-in_err-standing.result (vault_of c.self.inside) c.in_ok-items.ensures.decided c.from_residual-in_err-standing.ensures.1 refl)

pub returns-clause-told : goal.returns-clause-told
returns-clause-told g c =
    rw (← c.self.view_is)
    (told_hold (vault_of c.self.inside) c.args.session.now c.args.wanted.now c.len.result c.last_short.result c.len.ensures c.last_short.ensures c.in_ok-items.items c.in_ok-standing.standing (vault_of (record c.self.inside { line = c.ask_short.new.self })) c.last_short-2.result c.reply_of.result c.in_ok-items.ensures.decided c.in_ok-standing.ensures.standing
    (rw c.in_ok-standing.ensures.asked refl) c.last_short-2.ensures c.reply_of.ensures)
