use Rattle.std.proofs.Common.{◌≡◌, List, [], ◌∷◌, ◌++◌, ap, ◌∙◌}
use Rattle.vault_desk.specs.declared.report.Out.{Out}
use Rattle.vault_desk.specs.declared.report.Out.TheVariants.{Told, Refused}
use Rattle.vault_desk.proofs.Talks.{loses, replies, counts_told, counts_unknown, lost_fits}
use Rattle.vault_desk.proofs.Seeing.{all_in, all_more, answered_knows, staged_in}
use Rattle.vault_desk.proofs.clerk.Clerk.settle.Goals as goal

pub returns-then-is_err-clause-stands : goal.returns-then-is_err-clause-stands
returns-then-is_err-clause-stands g c = λ r0 r w0 w s0 h. rw c.reserve.ensures.same.0 (loses c.args.ticket r0 r w0 w s0 _ _ _ _ _ _ h.0, record { told = h.1.told; asked = tt })

pub returns-in-NoMemory-clause-stands : goal.returns-in-NoMemory-clause-stands
returns-in-NoMemory-clause-stands g c = λ r0 r w0 w s0 h. rw (c.reserve.ensures.same.0, c.in-NoMemory.ensures.counted) (loses c.args.ticket r0 r w0 w s0 _ _ _ _ _ _ h.0, record { told = all_in _ _ _ c.in-NoMemory.ensures.seen h.1.told; asked = tt })

pub returns-in-Told-clause-stands : goal.returns-in-Told-clause-stands
returns-in-Told-clause-stands g c = λ r0 r w0 w s0 h.
    let all = c.args.talk.now.answers.outs in
    let out = Told c.in-Told.receipt in
    let more : c.answer.new.talk.answers.outs ≡ all ++ out ∷ [] = ◌∙◌ {A = List (Out g.row.A.Denot)} c.answer.ensures.kept.0 (ap (λ l. l ++ out ∷ []) c.reserve.ensures.same.0) in
    let is = c.in-Told.ensures.of_ticket in
    let known = answered_knows out c.answer.result _ _ c.answer.ensures.told (all_more _ all out (all_in _ _ all c.in-Told.ensures.seen h.1.told) (c.in-Told.ensures.shown h.1.asked)) in
    rw (more, c.answer.ensures.same.0, c.answer.ensures.same.1, c.answer.ensures.same.2, c.answer.ensures.same.3, c.answer.ensures.same.5) (replies c.args.ticket out c.answer.result r0 r w0 w s0 _ _ _ all _ _ _ _ h.0 is.command (λ of_session. is.session ∙ of_session) c.answer.ensures.kept.1 (λ before staged. counts_told g.row.A.Denot before _ _ c.in-Told.receipt staged c.in-Told.ensures.counted) c.answer.ensures.told, known)

pub returns-in-Lost-clause-stands : goal.returns-in-Lost-clause-stands
returns-in-Lost-clause-stands g c = λ r0 r w0 w s0 h.
    let all = c.args.talk.now.answers.outs in
    let out = Refused c.in-Lost.cause in
    let more : c.answer-in-Lost.new.talk.answers.outs ≡ all ++ out ∷ [] = ◌∙◌ {A = List (Out g.row.A.Denot)} c.answer-in-Lost.ensures.kept.0 (ap (λ l. l ++ out ∷ []) c.reserve.ensures.same.0) in
    let is = c.in-Lost.ensures.of_ticket.1 in
    let known = answered_knows out c.answer-in-Lost.result _ _ c.answer-in-Lost.ensures.told (all_more _ all out (all_in _ _ all c.in-Lost.ensures.seen h.1.told) tt) in
    rw (more, c.answer-in-Lost.ensures.same.0, c.answer-in-Lost.ensures.same.1, c.answer-in-Lost.ensures.same.2, c.answer-in-Lost.ensures.same.3, c.answer-in-Lost.ensures.same.5) (replies c.args.ticket out c.answer-in-Lost.result r0 r w0 w s0 _ _ _ all _ _ _ _ h.0 (lost_fits is) (λ of_session. tt) c.answer-in-Lost.ensures.kept.1 (λ before staged. counts_unknown g.row.A.Denot _ before _ _ is staged c.in-Lost.ensures.counted) c.answer-in-Lost.ensures.told, known)

pub returns-in-NotYet-clause-stands : goal.returns-in-NotYet-clause-stands
returns-in-NotYet-clause-stands g c = λ r0 r w0 w s0 h.
    rw (c.reserve.ensures.same.0, c.in-NotYet.ensures.of_ticket, c.in-NotYet.ensures.counted) (h.0, record { told = all_in _ _ _ c.in-NotYet.ensures.seen h.1.told; asked = staged_in _ _ _ c.in-NotYet.ensures.seen h.1.asked })
