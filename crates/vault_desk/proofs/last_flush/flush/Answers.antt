use Rattle.std.proofs.Common.{◌∙◌}
use Rattle.vault_desk.proofs.Acts.{answered}
use Rattle.vault_desk.proofs.Desks.{pump_keeps}
use Rattle.vault_desk.proofs.last_flush.flush.Goals as goal

pub loop-preserved : goal.loop-preserved
loop-preserved g c =
    let i = c.loop.invariant in
    let e = c.pump.ensures in
    let k = pump_keeps c.loop.vault c.pump.new.self c.pump.result (record { broken = e.broken; answer = e.answer; pumped = e.pumped; failed = e.failed; life = e.life }) in
    (k.0 ∙ i.0, k.1 ∙ i.1, λ first on. answered first c.loop.vault c.pump.new.self (i.2 first on) e.answered)
