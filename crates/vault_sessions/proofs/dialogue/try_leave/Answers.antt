use Rattle.vault_sessions.proofs.dialogue.try_leave.Goals as goal

pub returns-in-Ok-clause-shown : goal.returns-in-Ok-clause-shown
returns-in-Ok-clause-shown g c = record {
  claim = c.in-Ok.ticket;
  is_leave = c.in-Ok.ensures.ok.1;
  of_session = c.in-Ok.ensures.ok.0;
  staged = c.in-Ok.ensures.shown;
}
