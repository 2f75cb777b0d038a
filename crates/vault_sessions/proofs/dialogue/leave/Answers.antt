use Rattle.std.proofs.Common.{◌≡◌, ◌≢◌, rules, inl, sym, ◌∙◌}
use Rattle.vault_model.specs.declared.replies.Outside.TheVariants.{Broken}
use Rattle.vault_desk.proofs.Seeing.{all_in}
use Rattle.vault_desk.proofs.Leaving.{has_left, broke_before}
use Rattle.vault_sessions.proofs.Dialogues.{done_so, done_left}
use Rattle.vault_sessions.proofs.dialogue.leave.Goals as goal

pub returns-in-Ok-clause-stands : goal.returns-in-Ok-clause-stands
returns-in-Ok-clause-stands g c = λ r0 r w0 w s0 h.
    let has_one : c.args.talk.now.session ≢ 0 = search rules in
    ((done_left c.args.ended r0 r w0 w s0 _ _ _ _ _ _ _ h.0 has_one c.in-Ok.ensures.counted, c.in-Ok.ensures.left), (all_in _ _ _ c.in-Ok.ensures.seen h.1.told, has_left _ _ _ c.requires c.in-Ok.ensures.shown))

pub returns-then-eq-clause-stands : goal.returns-then-eq-clause-stands
returns-then-eq-clause-stands g c = λ r0 r w0 w s0 h.
    let broken : c.in-Err.why ≡ Broken = search rules in
    rw c.in-Err.ensures.refused ((done_so c.args.ended r0 r w0 w s0 _ _ _ _ _ _ h.0, c.refused.ensures), (all_in _ _ _ c.in-Err.ensures.seen h.1.told, broke_before _ _ (c.in-Err.ensures.broken broken)))

pub returns-then-is_given_up-clause-stands : goal.returns-then-is_given_up-clause-stands
returns-then-is_given_up-clause-stands g c = λ r0 r w0 w s0 h.
    rw c.in-Err.ensures.refused (h.0, all_in _ _ _ c.in-Err.ensures.seen h.1.told)

pub returns-clause-stands : goal.returns-clause-stands
returns-clause-stands g c = λ r0 r w0 w s0 h.
    rw c.in-Err.ensures.refused (h.0, record { told = all_in _ _ _ c.in-Err.ensures.seen h.1.told; asked = tt })
