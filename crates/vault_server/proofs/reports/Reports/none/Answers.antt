use Rattle.std.proofs.Common.{◌≡◌, List, [], ◌∷◌, ◌++◌, ap, ◌∙◌}
use Rattle.vault_sessions.specs.Reports.{Report}
use Rattle.vault_server.specs.Logs.{logged, logged_next}
use Rattle.vault_server.specs.declared.reports.Log.TheOpen.{Log-F}
use Rattle.vault_server.specs.declared.reports.Log.TheFolds.{fold-roll-Log}
use Rattle.vault_server.proofs.reports.Reports.none.Goals as goal

pub returns : goal.returns
unfolding Rattle.vault_server.specs.declared.reports.Log.TheViews.roll-Log denote.Hole.Carrier.roll
returns g c = ap logged c.of.ensures ∙ fold-roll-Log g.row.A.Denot (List (Report g.row.A.Denot)) logged_next Log-F.Empty
