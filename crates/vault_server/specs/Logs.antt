-- The reports that a log stands for. This project's own.
use Rattle.std.specs.Prelude.{List, [], ◌∷◌, ◌++◌}
use Rattle.vault_sessions.specs.Reports.{Report, reported}
use Rattle.vault_server.specs.declared.reports.Log.{Log}
use Rattle.vault_server.specs.declared.reports.Log.TheOpen.{Log-F}
use Rattle.vault_server.specs.declared.reports.Log.TheFolds.{fold-Log}

-- none; those before it, and the last one; some, and others
abbrev pub logged_next : {A : Type 0} → Log-F A (List (Report A)) → List (Report A)
logged_next Log-F.Empty = []
logged_next (Log-F.More before wire answers ended) = before.value ++ reported wire.value.heard wire.value.stream answers.value ended ∷ []
logged_next (Log-F.Both some others) = some.value ++ others.value

-- all of them, in order
abbrev pub logged : {A : Type 0} → Log A → List (Report A)
logged {A} = fold-Log A (List (Report A)) logged_next
