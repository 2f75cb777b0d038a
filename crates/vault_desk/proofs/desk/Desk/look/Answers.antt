use Rattle.std.proofs.Common.{◌≡◌, ap, arith, rules}
use Rattle.std.proofs.lemmas.Bool.Decides.{nat_tests}
use Rattle.group_commit.specs.Seen.{VaultSeen}
use Rattle.vault_desk.specs.AtDesk.{AtDesk}
use Rattle.vault_desk.specs.Sights.{WentThrough, seen_by}
use Rattle.vault_desk.proofs.Seeing.{told_now}
use Rattle.vault_desk.proofs.Leaving.{saw_told}
use Rattle.vault_desk.proofs.desk.Desk.look.Goals.{else-position-durable-via-then-position-durable+else-not-went_through, else-position-durable-via-else-position-durable}
use Rattle.vault_desk.proofs.desk.Desk.look.Goals as goal

pub returns-in-Told-clause-shown : goal.returns-in-Told-clause-shown
returns-in-Told-clause-shown g c = λ was.
    let told = c.in-Told.ensures.redeemed in
    let old = c.args.self.now.vault.view in
    let new = c.redeem.new.self.vault.view in
    let settled : c.self.inside.vault.view.settled ≡ old.settled = ap (λ (s : AtDesk g.row.D.Denot). s.vault.view.settled) c.self.view_is in
    let went : WentThrough g.S.Tally.beginning old (seen_by c.args.sight.now) =
    elim c.else-position-durable.branch [
      | else-position-durable-via-then-position-durable+else-not-went_through w ↦ w.went_through.ensures (search rules)
      | else-position-durable-via-else-position-durable w ↦ absurd (grind (arith, nat_tests, told.1.0, settled, c.position.ensures, c.durable.ensures, w.if-position-durable.false))
    ] in
    saw_told (seen_by c.show_to.new.sight) new c.in-Told.receipt c.show_to.ensures.shown
    (told_now g.S.Tally.beginning old new (seen_by c.args.sight.now) c.args.ticket c.in-Told.receipt went was told.1 told.3 (ap (λ (s : VaultSeen g.row.D.Denot). s.view) told.2))
