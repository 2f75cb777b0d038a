use Rattle.std.proofs.Common.{◌∷◌}
use Rattle.test_commits.proofs.vault.past.under_way.Goals as goal

pub returns : goal.returns
returns g c = λ past p.
    let staged = c.a_past_goes_on.ensures.answered c.args.vault.now past p c.stage.ensures.answered in
    let given_up = c.a_past_goes_on-2.ensures.answered c.stage.new.self (c.args.vault.now ∷ past) staged c.forget.ensures.answered in
    let written = c.a_past_goes_on-3.ensures.answered c.forget.new.self (c.stage.new.self ∷ c.args.vault.now ∷ past) given_up c.pump.ensures.answered in
    (c.stage.new.self, c.forget.new.self, c.pump.new.self, c.a_past_goes_on-4.ensures.answered c.pump.new.self (c.forget.new.self ∷ c.stage.new.self ∷ c.args.vault.now ∷ past) written c.pump-2.ensures.answered)
