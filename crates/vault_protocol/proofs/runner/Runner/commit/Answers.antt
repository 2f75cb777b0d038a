use Rattle.std.proofs.Common.{◌∙◌, ap}
use Rattle.vault_protocol.specs.Talk.{Talk, pumps_needed, committed}
use Rattle.vault_protocol.proofs.Commits.{some_needed, one_pump, one_fewer}
use Rattle.vault_protocol.proofs.runner.Runner.commit.Goals as goal

pub loop-self-smaller : goal.loop-self-smaller
loop-self-smaller g c =
    one_fewer c.loop-self.self c.pump.new.self
    (λ none. some_needed c.is_at_rest.result c.self.inside.vault.view c.is_at_rest.ensures c.loop-self-test.true (ap (λ (t : Talk). pumps_needed t.view) c.self.view_is ∙ none))
    c.in_ok-pump.ensures.state

pub loop-self-preserved : goal.loop-self-preserved
loop-self-preserved g c =
    one_pump c.loop-self.self c.pump.new.self
    (λ none. some_needed c.is_at_rest.result c.self.inside.vault.view c.is_at_rest.ensures c.loop-self-test.true (ap (λ (t : Talk). pumps_needed t.view) c.self.view_is ∙ none))
    c.in_ok-pump.ensures.state (committed c.args.self.now) c.loop-self.invariant
