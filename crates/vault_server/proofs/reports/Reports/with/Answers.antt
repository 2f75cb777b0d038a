use Rattle.std.proofs.Common.{List, [], ◌∷◌, ◌++◌, ap, ◌∙◌}
use Rattle.vault_sessions.specs.Reports.{Report, reported}
use Rattle.vault_server.specs.Logs.{logged, logged_next}
use Rattle.vault_server.specs.declared.reports.Log.TheOpen.{Log-F}
use Rattle.vault_server.specs.declared.reports.Log.TheFolds.{fold-roll-Log}
use Rattle.vault_server.proofs.reports.Reports.with.Goals as goal

pub returns : goal.returns
unfolding Rattle.vault_server.specs.declared.reports.Log.TheViews.roll-Log denote.Hole.Carrier.roll
returns g c =
    let before : List (Report g.row.A.Denot) = logged c.self.inside.log.value in
    ap logged c.of-3.ensures
    ∙ (fold-roll-Log g.row.A.Denot (List (Report g.row.A.Denot)) logged_next (Log-F.More c.self.inside.log c.of.result c.of-2.result c.args.ended)
    ∙ (ap (λ wire. before ++ reported wire.heard wire.stream c.of-2.result.value c.args.ended ∷ []) c.of.ensures
    ∙ (ap (λ answers. before ++ reported c.args.wire.now.heard c.args.wire.now.stream answers c.args.ended ∷ []) c.of-2.ensures
    ∙ ap (λ (reports : List (Report g.row.A.Denot)). reports ++ reported c.args.wire.now.heard c.args.wire.now.stream c.args.answers.now c.args.ended ∷ []) c.self.view_is)))
