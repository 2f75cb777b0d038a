use Rattle.std.proofs.Common.{rules}
use Rattle.vault_sessions.proofs.Dialogues.{waits_no_more}
use Rattle.vault_sessions.proofs.dialogue.settle.Goals as goal

pub returns-in_default : goal.returns-in_default
returns-in_default g c = record {
  stands = c.settle.ensures.stands;
  kept = c.settle.ensures.kept;
  came = waits_no_more c.settle.result c.in_default.not-Wait;
  over = search rules;
  ended = search rules;
}
