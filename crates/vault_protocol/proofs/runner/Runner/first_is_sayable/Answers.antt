use Rattle.std.proofs.Common.{◌∙◌, ap, sym, refl, [], ◌∷◌}
use Rattle.std.specs.Prelude.{nat_lt}
use Rattle.vault_protocol.specs.Waiting.{line_of}
use Rattle.vault_protocol.specs.Saying.{is_sayable, may_be_said}
use Rattle.vault_protocol.proofs.FirstLine.{first_line, no_line}
use Rattle.vault_protocol.proofs.runner.Runner.first_is_sayable.Goals as goal

pub returns-in-None : goal.returns-in-None
returns-in-None g c = no_line c.self.inside.vault.view.settled c.self.inside.lines.items _ (sym c.self.inside.lines.ok.0) c.in-None.ensures.variant.1 ∙ ap is_sayable c.self.view_is

pub returns-in-Some-Known : goal.returns-in-Some-Known
returns-in-Some-Known g c =
    let first = c.in-Some-Known.field-0.now in
    ap (λ line. may_be_said c.self.inside.vault.view.settled (line_of line ∷ [])) (sym c.in-Some-Known.field-0-is)
    ∙ first_line c.self.inside.vault.view.settled c.self.inside.lines.items first _ (sym c.self.inside.lines.ok.0) (c.in-Some-Known.ensures.variant.0 refl) c.in-Some-Known.ensures.lookup
    ∙ ap is_sayable c.self.view_is

pub returns-in-Some-Awaited : goal.returns-in-Some-Awaited
returns-in-Some-Awaited g c =
    let first = c.in-Some-Awaited.field-0.now in
    ap (λ n. nat_lt n c.durable.result) c.position.ensures ∙ ap (λ n. nat_lt c.in-Some-Awaited.ticket.position n) c.durable.ensures
    ∙ ap (λ line. may_be_said c.self.inside.vault.view.settled (line_of line ∷ [])) (sym c.in-Some-Awaited.field-0-is)
    ∙ first_line c.self.inside.vault.view.settled c.self.inside.lines.items first _ (sym c.self.inside.lines.ok.0) (c.in-Some-Awaited.ensures.variant.0 refl) c.in-Some-Awaited.ensures.lookup
    ∙ ap is_sayable c.self.view_is
