use Rattle.std.proofs.Common.{◌≡◌, ◌∷◌, sym, ap, ◌∙◌, subst, false}
use Rattle.vault_device.specs.MemDevice.{MemDisk}
use Rattle.group_commit.specs.Entries.{Entry}
use Rattle.group_commit.specs.History.{entry_of}
use Rattle.group_commit.specs.World.{Stage, Pump, Tell}
use Rattle.group_commit.specs.View.{View, length_of, book_of, view_acted}
use Rattle.group_commit.specs.Ticket.{TicketSeen, ticket_of}
use Rattle.group_commit.specs.Seen.{VaultSeen, snapshot_length}
use Rattle.group_commit.specs.Calls.{IsReceiptOf}
use Rattle.group_commit.specs.Positions.{HasEntry, HasTold}
use Rattle.test_commits.proofs.vault.past.told.Goals as goal

pub returns-clause-past : goal.returns-clause-past
returns-clause-past g c = λ past p.
    let staged = c.a_past_goes_on.ensures.answered c.args.vault.now past p c.stage.ensures.answered in
    let pumped = c.a_past_goes_on-2.ensures.answered c.stage.new.self (c.args.vault.now ∷ past) staged c.pump.ensures.answered in
    (c.stage.new.self, c.pump.new.self, c.a_past_goes_on-3.ensures.answered c.pump.new.self (c.stage.new.self ∷ c.args.vault.now ∷ past) pumped c.redeem-answer.ensures.answered)

pub returns-clause-receipt : goal.returns-clause-receipt
returns-clause-receipt g c =
    let v : View = c.args.vault.now.view in
    let staged : View = c.stage.new.self.view in
    let pumped : View = c.pump.new.self.view in
    let entry : Entry = entry_of (book_of v) 0 c.args.command in
    let laws = c.receipts_are_of_their_entries.ensures in
    let whole : staged.broken ≡ false = ap (λ (w : View). w.broken) c.in-Ok.ensures.staged ∙ c.in-Ok.ensures.allowed in
    let here : HasEntry staged (length_of v) entry = subst (λ (w : View). HasEntry w (length_of v) entry) (sym c.in-Ok.ensures.staged) (laws.staged v 0 c.args.command) in
    let there : HasEntry pumped (length_of v) entry = subst (λ (w : View). HasEntry w (length_of v) entry) (sym (c.in-Ok-pump.ensures.pumped whole)) (laws.stay staged Pump (length_of v) entry here here.not_retired) in
    let told = c.in-Told.ensures.told in
    let receipt : IsReceiptOf (ticket_of c.args.vault.now.life (length_of v) entry) pumped c.in-Told.receipt = subst (λ (k : TicketSeen). IsReceiptOf k pumped c.in-Told.receipt) c.in-Ok.ensures.ticket told.3 in
    let seen : c.redeem-answer.new.self.view ≡ view_acted snapshot_length pumped (Tell (length_of v)) = ap (λ (s : VaultSeen MemDisk). s.view) told.2 ∙ ap (λ (k : TicketSeen). view_acted snapshot_length pumped (Tell k.position)) c.in-Ok.ensures.ticket in
    subst (λ (w : View). HasTold w c.in-Told.receipt) (sym seen) (laws.kept pumped c.args.vault.now.life (length_of v) entry c.in-Told.receipt there receipt)
