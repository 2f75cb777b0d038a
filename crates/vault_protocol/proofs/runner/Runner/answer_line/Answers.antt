use Rattle.vault_protocol.proofs.Hearing.{no_line_talk, no_line_text}
use Rattle.vault_protocol.proofs.runner.Runner.answer_line.Goals as goal

pub returns-in_ok-push_text-in-None-clause-state : goal.returns-in_ok-push_text-in-None-clause-state
returns-in_ok-push_text-in-None-clause-state g c =
    no_line_talk c.say.result c.args.self.now c.push_text.new.self c.in_ok-from_slice-in-None.field-0.items _ c.in_ok-push_text-in-None.ensures c.in_ok-from_slice-in-None.ensures.items c.in-None.ensures
    c.say.new.self c.say.ensures.state

pub returns-in_ok-push_text-in-None-clause-text : goal.returns-in_ok-push_text-in-None-clause-text
returns-in_ok-push_text-in-None-clause-text g c =
    no_line_text c.say.result c.args.self.now c.push_text.new.self c.in_ok-from_slice-in-None.field-0.items _ c.in_ok-push_text-in-None.ensures c.in_ok-from_slice-in-None.ensures.items c.in-None.ensures
    c.args.out.now.items c.say.new.out.items c.say.ensures.text
