use Rattle.std.proofs.Common.{◌∙◌, ap, sym, subst}
use Rattle.vault_state.specs.Vault.{Vault, CountsBelow}
use Rattle.vault_checkout.specs.Seen.{vault_of}
use Rattle.vault_checkout.proofs.Following.{follows_refused}
use Rattle.vault_checkout.proofs.Wanting.{check_out_refused, check_out_in_vain, told_check_out}
use Rattle.vault_checkout.proofs.book.Book.check_out.Goals as goal

pub returns-in_err-items-clause-told : goal.returns-in_err-items-clause-told
returns-in_err-items-clause-told g c =
    follows_refused c.args.self.now c.from_residual.result c.in_err-items.field-0.0 _ c.from_residual.ensures.1
    (rw (← c.self.view_is) (check_out_refused (vault_of c.self.inside) c.args.designer c.args.wanted.now c.len.result c.last_long.result c.len.ensures c.last_long.ensures c.in_err-items.field-0.0 c.in_err-items.ensures.decided))

pub ask-requires-clause-there : goal.ask-requires-clause-there
ask-requires-clause-there g c = rw (← c.self.view_is) c.in_ok-items.ensures.there

pub returns-in_err-standing-clause-told : goal.returns-in_err-standing-clause-told
returns-in_err-standing-clause-told g c =
    rw (← c.self.view_is)
    (check_out_in_vain (vault_of c.self.inside) c.args.designer c.args.wanted.now c.len.result c.last_long.result c.len.ensures c.last_long.ensures c.in_ok-items.items c.from_residual-in_err-standing.result c.ask.new.self c.in_ok-items.ensures.decided
    c.from_residual-in_err-standing.ensures.1 (c.in_err-standing.ensures.unchanged ∙ sym c.self.view_is))

pub returns-clause-told : goal.returns-clause-told
returns-clause-told g c =
    rw (← c.self.view_is)
    (told_check_out (vault_of c.self.inside) c.args.designer c.args.wanted.now c.len.result c.last_long.result c.len.ensures c.last_long.ensures c.in_ok-items.items c.in_ok-standing.standing c.ask.new.self c.last_long-number.result c.reply_of.result c.in_ok-items.ensures.decided
    (rw (← c.self.view_is) at c.in_ok-standing.ensures.standing) (rw (← c.self.view_is) at c.in_ok-standing.ensures.asked) (c.last_long-number.ensures ∙ ap (λ (v : Vault). v.last_long) c.self-2.view_is) c.reply_of.ensures)

pub returns-clause-counts : goal.returns-clause-counts
returns-clause-counts g c = λ bound h. subst (CountsBelow bound) (sym c.in_ok-standing.ensures.asked) (record { door = h.door; each = h.each })
