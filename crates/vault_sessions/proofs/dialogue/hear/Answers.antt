use Rattle.std.proofs.Common.{rules}
use Rattle.vault_sessions.proofs.Dialogues.{hears_no_more}
use Rattle.vault_sessions.proofs.dialogue.hear.Goals as goal

pub returns-in-Hear-clause-stands : goal.returns-in-Hear-clause-stands
returns-in-Hear-clause-stands g c = λ r0 w0 s0 h. rw c.in-Hear.ensures.same.0 (c.in-Hear.ensures.stands r0 w0 _ s0 h)

pub returns-in_default : goal.returns-in_default
returns-in_default g c = record {
  stands = λ r0 w0 s0 h. rw c.hear.ensures.same.0 (c.hear.ensures.stands r0 w0 _ s0 h);
  same = (c.hear.ensures.same.1, c.hear.ensures.kept);
  came = hears_no_more c.hear.result c.in_default.not-Hear;
  over = search rules;
  ended = search rules;
}
