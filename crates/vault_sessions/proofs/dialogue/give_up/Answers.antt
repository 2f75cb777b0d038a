use Rattle.vault_sessions.proofs.dialogue.give_up.Goals as goal

pub returns-in-Takes-clause-stands : goal.returns-in-Takes-clause-stands
returns-in-Takes-clause-stands g c = λ r0 r w0 w s0 inflow kept is_long outs session share h.
    c.end_turn.ensures r0 r w0 w s0 inflow kept is_long outs session share (rw c.in-Takes.is at h)

pub returns-in-Takes-clause-knows : goal.returns-in-Takes-clause-knows
returns-in-Takes-clause-knows g c = λ seen outs h. (rw c.in-Takes.is at h).told
