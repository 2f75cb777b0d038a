use Rattle.std.proofs.Common.{◌≡◌, List, [], ◌∷◌, ◌++◌, ap, ◌∙◌}
use Rattle.vault_sessions.specs.Reports.{Report}
use Rattle.vault_server.specs.Logs.{logged, logged_next}
use Rattle.vault_server.specs.declared.reports.Log.TheOpen.{Log-F}
use Rattle.vault_server.specs.declared.reports.Log.TheFolds.{fold-roll-Log}
use Rattle.vault_server.proofs.reports.Reports.and.Goals as goal

pub returns : goal.returns
unfolding Rattle.vault_server.specs.declared.reports.Log.TheViews.roll-Log denote.Hole.Carrier.roll
returns g c =
    ap logged c.of.ensures
    ∙ (fold-roll-Log g.row.A.Denot (List (Report g.row.A.Denot)) logged_next (Log-F.Both c.self.inside.log c.others.inside.log)
    ∙ (ap (λ (reports : List (Report g.row.A.Denot)). reports ++ logged c.others.inside.log.value) c.self.view_is
    ∙ ap (λ (reports : List (Report g.row.A.Denot)). c.args.self ++ reports) c.others.view_is))
