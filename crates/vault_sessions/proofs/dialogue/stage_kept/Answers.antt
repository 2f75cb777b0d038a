use Rattle.std.proofs.Common.{rules}
use Rattle.vault_sessions.proofs.Dialogues.{keeps_no_more}
use Rattle.vault_sessions.proofs.dialogue.stage_kept.Goals as goal

pub returns-in_default : goal.returns-in_default
returns-in_default g c = record {
  stands = c.stage_kept.ensures.stands;
  kept = c.stage_kept.ensures.kept;
  came = keeps_no_more c.stage_kept.result c.in_default.not-Keep;
  over = search rules;
  ended = search rules;
}
