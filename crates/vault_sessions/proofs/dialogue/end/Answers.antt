use Rattle.vault_sessions.proofs.Dialogues.{done_so}
use Rattle.vault_sessions.proofs.dialogue.end.Goals as goal

pub returns-in-GivenUp-clause-done : goal.returns-in-GivenUp-clause-done
returns-in-GivenUp-clause-done g c = λ r0 r w0 w s0 inflow kept is_long outs session share h.
    done_so c.in-GivenUp.ended r0 r w0 w s0 inflow kept is_long outs session share (rw c.in-GivenUp.is at h)
