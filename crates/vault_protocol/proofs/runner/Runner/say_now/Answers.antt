use Rattle.std.proofs.Common.{◌∙◌, sym}
use Rattle.vault_protocol.specs.Talk.{said_now}
use Rattle.vault_protocol.proofs.Saying.{said_more}
use Rattle.vault_protocol.proofs.runner.Runner.say_now.Goals as goal

pub loop-alloc-preserved : goal.loop-alloc-preserved
loop-alloc-preserved g c =
    let more =
    said_more c.loop-alloc.self c.say_first.new.self c.loop-alloc.out.items c.args.out.now.items c.say_first.new.out.items (said_now c.args.self.now)
    (sym c.first_is_sayable.ensures ∙ c.loop-alloc-test.true) c.loop-alloc.invariant.texts c.loop-alloc.invariant.talks c.in_ok-say_first.ensures.state c.in_ok-say_first.ensures.text in
    record { texts = more.0; talks = more.1 }
