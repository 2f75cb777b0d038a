use Rattle.std.proofs.Common.{◌≡◌, ℕ, subst, refl, sym, ap, ◌∙◌, ◌+◌}
use Rattle.group_commit.specs.History.{entry_of}
use Rattle.group_commit.specs.World.{Stage}
use Rattle.group_commit.specs.View.{length_of, book_of, view_acted}
use Rattle.group_commit.specs.Seen.{snapshot_length}
use Rattle.group_commit.specs.Ticket.{TicketSeen, ticket_of}
use Rattle.group_commit.specs.Calls.{IsReason}
use Rattle.group_commit.specs.Pasts.{IsAnswered}
use Rattle.vault_desk.specs.AtDesk.{AtDesk}
use Rattle.vault_desk.specs.declared.tally.Totals.{Totals}
use Rattle.vault_desk.proofs.Desks.{stage_counts, same_desk, same_lengths, least_staged, least_told, counted_fits}
use Rattle.vault_desk.proofs.Acts.{answered}
use Rattle.vault_desk.proofs.Seeing.{went_call}
use Rattle.vault_desk.proofs.desk.Desk.stage.Goals as goal

pub returns-in-Ok-clause-answered : goal.returns-in-Ok-clause-answered
returns-in-Ok-clause-answered g c = subst (λ (s : AtDesk g.row.D.Denot). IsAnswered s.vault c.stage.new.self) c.self.view_is c.in-Ok.ensures.answered

pub invariant_of-self : goal.invariant_of-self
invariant_of-self g c =
    let k = stage_counts c.self.inside.vault c.stage.new.self c.args.session c.args.command c.in-Ok.ensures.staged in
    let i = c.self.invariant in
    let books = c.audit_beside.ensures.books in
    let same = c.audit_beside.ensures.same.1 in (
      c.add.ensures.total ∙ ap (λ n. n + 1) (books.0 ∙ i.0) ∙ sym k.0,
      books.1 ∙ i.1 ∙ sym k.1,
      ap (λ (t : Totals). t.staged) same ∙ i.2,
      ap (λ (t : Totals). t.told) same ∙ i.3,
      answered g.S.Tally.beginning c.self.inside.vault c.stage.new.self i.4 c.in-Ok.ensures.answered,
      went_call g.S.Tally.beginning c.self.inside.vault c.stage.new.self c.self.inside.sight i.5 c.in-Ok.ensures.answered,
    )

pub invariant_of-share : goal.invariant_of-share
invariant_of-share g c =
    let i = c.share.invariant in
    (◌∙◌ {A = ℕ} c.add.ensures.parts i.0, ◌∙◌ {A = ℕ} c.add.ensures.amount (ap (λ n. n + 1) i.1), i.2, i.3)

pub overflow_add-share : goal.overflow_add-share
overflow_add-share g c =
    let k = stage_counts c.self.inside.vault c.stage.new.self c.args.session c.args.command c.in-Ok.ensures.staged in
    let opening = ap (λ (t : Totals). t.staged) c.audit_beside.ensures.same.1 ∙ c.self.invariant.2 in
    let counted = ap (λ n. n + 1) (c.audit_beside.ensures.books.0 ∙ c.self.invariant.0) ∙ sym k.0 in
    let least = least_told (ap (λ (t : Totals). t.staged) c.share.view_is) opening c.audit_beside.ensures.staged counted in
    counted_fits (c.share.inside.counts.staged + 1) (length_of g.S.Tally.beginning) _ _ least c.len-length.ensures c.len-length.type_inv

pub invariant_of-self-in-Err : goal.invariant_of-self-in-Err
invariant_of-self-in-Err g c =
    let k = same_lengths c.self.inside.vault c.stage.new.self c.in-Err.ensures.refused in
    let i = c.self.invariant in
    let books = c.audit_beside.ensures.books in
    let same = c.audit_beside.ensures.same.1 in
    let on = answered g.S.Tally.beginning c.self.inside.vault c.stage.new.self i.4 c.in-Err.ensures.answered in
    let went = went_call g.S.Tally.beginning c.self.inside.vault c.stage.new.self c.self.inside.sight i.5 c.in-Err.ensures.answered in
    (books.0 ∙ i.0 ∙ sym k.0, books.1 ∙ i.1 ∙ sym k.1, ap (λ (t : Totals). t.staged) same ∙ i.2, ap (λ (t : Totals). t.told) same ∙ i.3, on, went)

pub returns-in-Ok-clause-staged : goal.returns-in-Ok-clause-staged
returns-in-Ok-clause-staged g c =
    subst (λ (s : AtDesk g.row.D.Denot). c.stage.new.self.view ≡ view_acted snapshot_length s.vault.view (Stage c.args.session c.args.command)) c.self.view_is
    c.in-Ok.ensures.staged

pub returns-in-Ok-clause-counted : goal.returns-in-Ok-clause-counted
returns-in-Ok-clause-counted g c = ap (λ (t : Totals). record t { staged = t.staged + 1 }) (c.share.view_is ∙ c.audit_beside.ensures.same.0)

pub returns-in-Ok-clause-ticket : goal.returns-in-Ok-clause-ticket
returns-in-Ok-clause-ticket g c =
    subst (λ (s : AtDesk g.row.D.Denot). c.in-Ok.ticket ≡ ticket_of s.vault.life (length_of s.vault.view) (entry_of (book_of s.vault.view) c.args.session c.args.command))
    c.self.view_is c.in-Ok.ensures.ticket

pub returns-in-Ok-clause-asked : goal.returns-in-Ok-clause-asked
returns-in-Ok-clause-asked g c = (ap (λ (t : TicketSeen). t.session) c.in-Ok.ensures.ticket, ap (λ (t : TicketSeen). t.command) c.in-Ok.ensures.ticket)

pub returns-in-Ok-clause-least : goal.returns-in-Ok-clause-least
returns-in-Ok-clause-least g c =
    let k = stage_counts c.self.inside.vault c.stage.new.self c.args.session c.args.command c.in-Ok.ensures.staged in
    let i = c.self.invariant in
    let audit = c.audit_beside.ensures in
    let shown = c.share.view_is in (
      least_told (ap (λ (t : Totals). t.staged) shown) (ap (λ (t : Totals). t.staged) audit.same.1 ∙ i.2) audit.staged (ap (λ n. n + 1) (audit.books.0 ∙ i.0) ∙ sym k.0),
      least_staged (ap (λ (t : Totals). t.told) shown) (ap (λ (t : Totals). t.told) audit.same.1 ∙ i.3) audit.told (audit.books.1 ∙ i.1 ∙ sym k.1),
    )

pub returns-in-Err-clause-refused : goal.returns-in-Err-clause-refused
returns-in-Err-clause-refused g c =
    (same_desk c.self.inside.vault c.stage.new.self c.self.inside.closed c.self.inside.waits.count c.args.self.now c.in-Err.ensures.refused c.self.view_is, c.audit_beside.ensures.same.0)

pub returns-in-Err-clause-reason : goal.returns-in-Err-clause-reason
returns-in-Err-clause-reason g c = subst (λ (s : AtDesk g.row.D.Denot). IsReason s.vault c.in-Err.refused.0) c.self.view_is c.in-Err.ensures.reason

pub returns-in-Err-clause-least : goal.returns-in-Err-clause-least
returns-in-Err-clause-least g c =
    let k = same_lengths c.self.inside.vault c.stage.new.self c.in-Err.ensures.refused in
    let i = c.self.invariant in
    let audit = c.audit_beside.ensures in (
      least_staged refl (ap (λ (t : Totals). t.staged) audit.same.1 ∙ i.2) audit.staged (audit.books.0 ∙ i.0 ∙ sym k.0),
      least_staged refl (ap (λ (t : Totals). t.told) audit.same.1 ∙ i.3) audit.told (audit.books.1 ∙ i.1 ∙ sym k.1),
    )

pub returns-in-Err-clause-answered : goal.returns-in-Err-clause-answered
returns-in-Err-clause-answered g c = subst (λ (s : AtDesk g.row.D.Denot). IsAnswered s.vault c.stage.new.self) c.self.view_is c.in-Err.ensures.answered
