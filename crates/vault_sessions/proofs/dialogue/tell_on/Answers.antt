use Rattle.std.proofs.Common.{rules}
use Rattle.vault_desk.specs.declared.turn.Turn.TheVariants.{Tell}
use Rattle.vault_desk.proofs.Talks.{told_on}
use Rattle.vault_sessions.proofs.Dialogues.{tells_no_more, told_knows}
use Rattle.vault_sessions.proofs.dialogue.tell_on.Goals as goal

pub returns-in-Tell-clause-stands : goal.returns-in-Tell-clause-stands
returns-in-Tell-clause-stands g c = λ r0 w0 s0 inflow kept is_long outs session share h.
    let told = rw c.in-Tell.is at c.tell-turn.ensures.told in
    rw c.tell-turn.ensures.same.0 (told_on c.args.telling (Tell c.in-Tell.telling) r0 _ w0 _ _ s0 inflow kept is_long outs session share told h)

pub returns-in-Tell-clause-knows : goal.returns-in-Tell-clause-knows
returns-in-Tell-clause-knows g c = λ seen outs all. record { told = all; asked = tt }

pub returns-in_default : goal.returns-in_default
returns-in_default g c = record {
  knows = λ seen outs all. told_knows c.args.telling c.tell-turn.result.0 _ _ seen outs c.tell-turn.ensures.told all;
  stands = λ r0 w0 s0 inflow kept is_long outs session share h.
      rw c.tell-turn.ensures.same.0 (told_on c.args.telling c.tell-turn.result.0 r0 _ w0 _ _ s0 inflow kept is_long outs session share c.tell-turn.ensures.told h);
  same = c.tell-turn.ensures.same.1;
  came = tells_no_more c.tell-turn.result.0 c.in_default.not-Tell;
  over = search rules;
  ended = search rules;
}
