use Rattle.std.proofs.Common.{ℕ, ◌∙◌, sym, ap, subst, refl, ◌+◌}
use Rattle.group_commit.specs.declared.answers.Redeemed.TheVariants.{Told}
use Rattle.group_commit.specs.Calls.{IsRedeemed}
use Rattle.group_commit.specs.Pasts.{IsAnswered}
use Rattle.vault_desk.specs.AtDesk.{AtDesk}
use Rattle.vault_desk.specs.declared.tally.Totals.{Totals}
use Rattle.vault_desk.proofs.Desks.{told_counts, redeem_keeps, same_lengths, least_staged, least_told, counted_fits}
use Rattle.vault_desk.proofs.Acts.{answered}
use Rattle.vault_desk.proofs.Seeing.{went_call}
use Rattle.vault_desk.proofs.desk.Desk.redeem.Goals as goal

pub invariant_of-self : goal.invariant_of-self
invariant_of-self g c =
    let k = told_counts g.row.A.Denot c.self.inside.vault c.redeem.new.self c.args.ticket c.in-Told.receipt c.in-Told.ensures.told in
    let i = c.self.invariant in
    let books = c.audit_beside.ensures.books in
    let same = c.audit_beside.ensures.same.1 in (
      books.0 ∙ i.0 ∙ sym k.0,
      c.add.ensures.total ∙ ap (λ n. n + 1) (books.1 ∙ i.1) ∙ sym k.1,
      ap (λ (t : Totals). t.staged) same ∙ i.2,
      ap (λ (t : Totals). t.told) same ∙ i.3,
      answered g.S.Tally.beginning c.self.inside.vault c.redeem.new.self i.4 c.in-Told.ensures.answered,
      went_call g.S.Tally.beginning c.self.inside.vault c.redeem.new.self c.self.inside.sight i.5 c.in-Told.ensures.answered,
    )

pub returns-in-Told-clause-least : goal.returns-in-Told-clause-least
returns-in-Told-clause-least g c =
    let k = told_counts g.row.A.Denot c.self.inside.vault c.redeem.new.self c.args.ticket c.in-Told.receipt c.in-Told.ensures.told in
    let i = c.self.invariant in
    let books = c.audit_beside.ensures.books in
    let same = c.audit_beside.ensures.same.1 in
    let shown = c.share.view_is in (
      least_staged (ap (λ (t : Totals). t.staged) shown) (ap (λ (t : Totals). t.staged) same ∙ i.2) c.audit_beside.ensures.staged (books.0 ∙ i.0 ∙ sym k.0),
      least_told (ap (λ (t : Totals). t.told) shown) (ap (λ (t : Totals). t.told) same ∙ i.3) c.audit_beside.ensures.told (ap (λ n. n + 1) (books.1 ∙ i.1) ∙ sym k.1),
    )

pub invariant_of-share : goal.invariant_of-share
invariant_of-share g c =
    let i = c.share.invariant in
    (i.0, i.1, ◌∙◌ {A = ℕ} c.add.ensures.parts i.2, ◌∙◌ {A = ℕ} c.add.ensures.amount (ap (λ n. n + 1) i.3))

pub overflow_add-share : goal.overflow_add-share
overflow_add-share g c =
    let k = told_counts g.row.A.Denot c.self.inside.vault c.redeem.new.self c.args.ticket c.in-Told.receipt c.in-Told.ensures.told in
    let opening = ap (λ (t : Totals). t.told) c.audit_beside.ensures.same.1 ∙ c.self.invariant.3 in
    let counted = ap (λ n. n + 1) (c.audit_beside.ensures.books.1 ∙ c.self.invariant.1) ∙ sym k.1 in
    let least = least_told (ap (λ (t : Totals). t.told) c.share.view_is) opening c.audit_beside.ensures.told counted in
    counted_fits (c.share.inside.counts.told + 1) g.T.Tally.beginning.told _ _ least c.told-told.ensures c.told-told.type_inv

pub invariant_of-self-in_default : goal.invariant_of-self-in_default
invariant_of-self-in_default g c =
    let kept = redeem_keeps {A = g.row.A.Denot} c.self.inside.vault c.redeem.new.self c.args.ticket c.redeem.result c.redeem.ensures.told c.in_default.not-Told in
    let k = same_lengths c.self.inside.vault c.redeem.new.self kept.0 in
    let i = c.self.invariant in
    let books = c.audit_beside.ensures.books in
    let same = c.audit_beside.ensures.same.1 in
    let on = answered g.S.Tally.beginning c.self.inside.vault c.redeem.new.self i.4 c.redeem.ensures.answered in
    let went = went_call g.S.Tally.beginning c.self.inside.vault c.redeem.new.self c.self.inside.sight i.5 c.redeem.ensures.answered in
    (books.0 ∙ i.0 ∙ sym k.0, books.1 ∙ i.1 ∙ sym k.1, ap (λ (t : Totals). t.staged) same ∙ i.2, ap (λ (t : Totals). t.told) same ∙ i.3, on, went)

pub returns-in-Told-clause-redeemed : goal.returns-in-Told-clause-redeemed
returns-in-Told-clause-redeemed g c =
    subst (λ (s : AtDesk g.row.D.Denot). IsRedeemed {A = g.row.A.Denot} s.vault c.redeem.new.self c.args.ticket (Told c.in-Told.receipt)) c.self.view_is
    c.in-Told.ensures.told

pub returns-in-Told-clause-of_ticket : goal.returns-in-Told-clause-of_ticket
returns-in-Told-clause-of_ticket g c =
    (told_counts g.row.A.Denot c.self.inside.vault c.redeem.new.self c.args.ticket c.in-Told.receipt c.in-Told.ensures.told).2

pub returns-in-Told-clause-counted : goal.returns-in-Told-clause-counted
returns-in-Told-clause-counted g c = ap (λ (t : Totals). record t { told = t.told + 1 }) (c.share.view_is ∙ c.audit_beside.ensures.same.0)

pub returns-in-Told-clause-answered : goal.returns-in-Told-clause-answered
returns-in-Told-clause-answered g c =
    subst (λ (s : AtDesk g.row.D.Denot). IsAnswered s.vault c.redeem.new.self) c.self.view_is c.in-Told.ensures.answered

pub returns-in_default : goal.returns-in_default
returns-in_default g c =
    let kept = redeem_keeps {A = g.row.A.Denot} c.self.inside.vault c.redeem.new.self c.args.ticket c.redeem.result c.redeem.ensures.told c.in_default.not-Told in
    let k = same_lengths c.self.inside.vault c.redeem.new.self kept.0 in
    let i = c.self.invariant in
    let audit = c.audit_beside.ensures in
    record {
      redeemed = subst (λ (s : AtDesk g.row.D.Denot). IsRedeemed {A = g.row.A.Denot} s.vault c.redeem.new.self c.args.ticket c.redeem.result) c.self.view_is c.redeem.ensures.told;
      of_ticket = kept.1;
      counted = kept.2 c.args.share.now c.audit_beside.new.self audit.same.0;
      least = (
        least_staged refl (ap (λ (t : Totals). t.staged) audit.same.1 ∙ i.2) audit.staged (audit.books.0 ∙ i.0 ∙ sym k.0),
        least_staged refl (ap (λ (t : Totals). t.told) audit.same.1 ∙ i.3) audit.told (audit.books.1 ∙ i.1 ∙ sym k.1),
      );
      «open» = (ap (λ (s : AtDesk g.row.D.Denot). s.closed) c.self.view_is, ap (λ (s : AtDesk g.row.D.Denot). s.waiting) c.self.view_is);
      answered = subst (λ (s : AtDesk g.row.D.Denot). IsAnswered s.vault c.redeem.new.self) c.self.view_is c.redeem.ensures.answered;
    }
