use Rattle.std.proofs.Common.{◌∙◌, ap, sym}
use Rattle.std.specs.Option.{option_copied}
use Rattle.long_locks.proofs.Reaching.{puts_one, puts_none}
use Rattle.long_locks.proofs.looking.put_at.Goals as goal

pub returns-then-not-look_into : goal.returns-then-not-look_into
returns-then-not-look_into g c =
    puts_none c.args.tree.now c.args.place c.args.claims.now.claims c.args.position c.unwrap-claim.result.now c.args.ids.now.items
    (sym c.at.ensures ∙ ap (λ r. option_copied {T = _} r) c.unwrap-claim.ensures) (sym (rw c.as_slice.ensures.items at c.look_into.ensures) ∙ c.if-not-look_into.true)

pub returns-in-Ok : goal.returns-in-Ok
returns-in-Ok g c =
    puts_one c.args.tree.now c.args.place c.args.claims.now.claims c.args.position c.unwrap-claim.result.now c.args.ids.now.items c.push.new.self.items
    (sym c.at.ensures ∙ ap (λ r. option_copied {T = _} r) c.unwrap-claim.ensures) (sym (rw c.as_slice.ensures.items at c.look_into.ensures) ∙ c.if-not-look_into.false) c.in-Ok.ensures.items
