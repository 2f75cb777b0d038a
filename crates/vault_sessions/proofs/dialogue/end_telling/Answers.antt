use Rattle.std.proofs.Common.{rules}
use Rattle.vault_sessions.proofs.Dialogues.{stops_telling}
use Rattle.vault_sessions.proofs.dialogue.end_telling.Goals as goal

pub returns-then-telling-len : goal.returns-then-telling-len
returns-then-telling-len g c = λ r0 r w0 w s0 inflow kept is_long outs session share h.
    stops_telling c.args.telling.now r0 r w0 w s0 inflow kept is_long outs session share (search rules) h
