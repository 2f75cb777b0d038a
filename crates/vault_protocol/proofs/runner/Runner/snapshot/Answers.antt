use Rattle.vault_protocol.specs.Waiting.{lines_of}
use Rattle.vault_protocol.proofs.Pumping.{started_talk}
use Rattle.vault_protocol.proofs.runner.Runner.snapshot.Goals as goal

pub returns-clause-state : goal.returns-clause-state
returns-clause-state g c =
    let e = c.in-Ok.ensures in
    started_talk c.self.inside.vault c.start_snapshot.new.self c.in-Ok._started c.self.inside.sessions c.self.inside.asked (lines_of c.self.inside.lines.items) c.args.self.now
    c.self.view_is e.started e.store e.may e.may_not e.not_now
