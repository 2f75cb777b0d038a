use Rattle.std.proofs.Common.{◌≡◌, ◌∙◌, ap, sym, [], ◌∷◌, ◌++◌}
use Rattle.std.proofs.lemmas.Result.{on_ok_weaker}
use Rattle.std.specs.Prelude.{slice_index}
use Rattle.std.proofs.lemmas.List.{map-append}
use Rattle.vault_protocol.specs.declared.waiting.Waiting.TheVariants as waiting
use Rattle.vault_protocol.specs.Talk.{Awaited}
use Rattle.vault_protocol.specs.Waiting.{line_of, lines_of}
use Rattle.group_commit.specs.Calls.{IsBusy}
use Rattle.vault_protocol.proofs.Staging.{talk_of, staged_talk, refused_talk}
use Rattle.vault_protocol.proofs.runner.Runner.stage.Goals as goal

pub returns-in-Ok-clause-state : goal.returns-in-Ok-clause-state
returns-in-Ok-clause-state g c =
    staged_talk c.self.inside.vault c.stage.new.self c.self.inside.sessions c.self.inside.asked (lines_of c.self.inside.lines.items) (lines_of c.push_back_reserved.new.self.items)
    c.args.self.now _ c.args.connection _ c.place-in-Ok.result c.len.result c.args.command
    c.self.view_is c.in-Ok.ensures.room (ap (λ place. slice_index c.self.inside.sessions place) c.place.ensures.place)
    c.in-Ok.ensures.staged c.in-Ok.ensures.noted c.place-in-Ok.ensures.place c.len.ensures
    (ap lines_of (c.push_back_reserved.ensures.items ∙ ap (λ items. items ++ waiting.Awaited c.args.connection c.in-Ok.ticket ∷ []) c.in_ok-reserve.ensures.items)
    ∙ map-append line_of c.self.inside.lines.items (waiting.Awaited c.args.connection c.in-Ok.ticket ∷ [])
    ∙ ap (λ position. lines_of c.self.inside.lines.items ++ Awaited c.args.connection position ∷ []) (ap (λ ticket. ticket.position) c.in-Ok.ensures.ticket))

pub returns-in-Busy-clause-state : goal.returns-in-Busy-clause-state
returns-in-Busy-clause-state g c =
    let busy : IsBusy c.self.inside.vault = (rw c.in-Busy.is at c.in-Err.ensures.reason).1 in
    let same : talk_of c.stage.new.self c.self.inside.sessions c.self.inside.asked (lines_of c.reserve.new.self.items) ≡ c.args.self.now =
    ap (λ v. talk_of v c.self.inside.sessions c.self.inside.asked (lines_of c.reserve.new.self.items)) c.in-Err.ensures.refused
    ∙ ap (λ items. talk_of c.self.inside.vault c.self.inside.sessions c.self.inside.asked (lines_of items)) c.reserve.ensures.items ∙ c.self.view_is in
    on_ok_weaker c.refuse.result (λ said. said ∙ refused_talk c.self.inside.vault c.stage.new.self c.self.inside.sessions c.self.inside.asked (lines_of c.reserve.new.self.items) c.args.self.now c.args.connection c.args.command same c.in-Err.ensures.refused busy) c.refuse.ensures.state
