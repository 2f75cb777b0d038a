use Rattle.std.proofs.Common.{◌≡◌, List, [], ◌∷◌, ◌++◌, ap, ◌∙◌}
use Rattle.vault_model.specs.declared.commands.Command.TheVariants.{Await}
use Rattle.vault_desk.specs.declared.waits.PendingWait.{PendingWait}
use Rattle.vault_desk.specs.declared.report.Out.{Out}
use Rattle.vault_desk.specs.declared.report.Out.TheVariants.{Refused}
use Rattle.vault_desk.proofs.Talks.{keeps_on, stages_kept, refuses_kept, wants_kept}
use Rattle.vault_desk.proofs.Seeing.{all_in, all_more, answered_knows}
use Rattle.vault_desk.proofs.clerk.Clerk.stage_kept.Goals as goal

pub returns-in-Err-clause-stands : goal.returns-in-Err-clause-stands
returns-in-Err-clause-stands g c = λ r0 r w0 w s0 h.
    (keeps_on c.args.kept c.in-Err.kept r0 r w0 w s0 _ _ _ _ _ _ (ap (λ (k : PendingWait). k.claim) c.in-Err.ensures.stays.0) h.0, record { told = h.1.told; asked = tt })

pub returns-then-is_err-clause-stands : goal.returns-then-is_err-clause-stands
returns-then-is_err-clause-stands g c = λ r0 r w0 w s0 h. rw c.reserve.ensures.same.0 (wants_kept c.args.kept r0 r w0 w s0 _ _ _ _ _ _ h.0, record { told = h.1.told; asked = tt })

pub returns-in-Ok-stage-clause-stands : goal.returns-in-Ok-stage-clause-stands
returns-in-Ok-stage-clause-stands g c = λ r0 r w0 w s0 h.
    let asked = c.in-Ok-stage.ensures.ok in
    rw c.reserve.ensures.same.0 (stages_kept c.args.kept c.in-Ok-stage.ticket r0 r w0 w s0 _ _ _ _ _ _ _ asked.0 (asked.1 ∙ ap Await c.in-Ok.ensures.claim) asked.2 h.0, record { told = all_in _ _ _ c.in-Ok-stage.ensures.seen h.1.told; asked = c.in-Ok-stage.ensures.shown })

pub returns-in-Err-stage-clause-stands : goal.returns-in-Err-stage-clause-stands
returns-in-Err-stage-clause-stands g c = λ r0 r w0 w s0 h.
    let all = c.args.talk.now.answers.outs in
    let out = Refused c.in-Err-stage.cause in
    let more : c.answer.new.talk.answers.outs ≡ all ++ out ∷ [] = ◌∙◌ {A = List (Out g.row.A.Denot)} c.answer.ensures.kept.0 (ap (λ l. l ++ out ∷ []) c.reserve.ensures.same.0) in
    let refused = c.in-Err-stage.ensures.err in
    let known = answered_knows out c.answer.result _ _ c.answer.ensures.told (all_more _ all out (all_in _ _ all c.in-Err-stage.ensures.seen h.1.told) tt) in
    rw (more, c.answer.ensures.same.0, c.answer.ensures.same.1, c.answer.ensures.same.2, c.answer.ensures.same.3, c.answer.ensures.same.5, refused.1) (refuses_kept c.args.kept c.in-Err-stage.cause c.answer.result r0 r w0 w s0 _ _ _ all _ _ _ refused.0 c.answer.ensures.kept.1 c.answer.ensures.told h.0, known)
