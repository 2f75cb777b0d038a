use Rattle.vault_sessions.proofs.dialogue.advance.Goals as goal

pub returns-in-Takes-Keep-clause-stands : goal.returns-in-Takes-Keep-clause-stands
returns-in-Takes-Keep-clause-stands g c = λ r0 w0 s0 h.
    c.stage_kept.ensures.stands r0 _ w0 _ s0 (rw (c.in-Takes-Keep.is, c.in-Takes-Keep.field-0-is) at h)

pub returns-in-Takes-Wait-clause-stands : goal.returns-in-Takes-Wait-clause-stands
returns-in-Takes-Wait-clause-stands g c = λ r0 w0 s0 h.
    c.settle.ensures.stands r0 _ w0 _ s0 (rw (c.in-Takes-Wait.is, c.in-Takes-Wait.field-0-is) at h)

pub returns-in-Takes-Over-clause-stands : goal.returns-in-Takes-Over-clause-stands
returns-in-Takes-Over-clause-stands g c = λ r0 w0 s0 h.
    c.leave.ensures.stands r0 _ w0 _ s0 (rw (c.in-Takes-Over.is, c.in-Takes-Over.field-0-is) at h)
