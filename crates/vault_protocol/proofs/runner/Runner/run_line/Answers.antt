use Rattle.std.proofs.Common.{◌≡◌, IfOk, subst}
use Rattle.std.specs.Prelude.{Option}
use Rattle.vault_device.specs.declared.history.Pick.{Pick}
use Rattle.vault_protocol.specs.Script.{said_with}
use Rattle.vault_protocol.proofs.runner.Runner.run_line.Goals as goal

-- src/runner.rt, `run_line`: the return after a crash
pub returns-in-Some-clause-state : goal.returns-in-Some-clause-state
returns-in-Some-clause-state g c =
    subst (λ (found : Option Pick). IfOk c.crash.result (λ next. next ≡ (said_with c.args.self c.args.line.now found).talk))
    c.in-Some.ensures c.crash.ensures.state
