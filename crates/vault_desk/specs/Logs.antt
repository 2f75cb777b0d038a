-- The answers that a log stands for. This project's own.
use Rattle.std.specs.Prelude.{List, [], ◌∷◌, ◌++◌}
use Rattle.vault_desk.specs.declared.report.Out.{Out}
use Rattle.vault_desk.specs.declared.answers.Log.{Log}
use Rattle.vault_desk.specs.declared.answers.Log.TheOpen.{Log-F}
use Rattle.vault_desk.specs.declared.answers.Log.TheFolds.{fold-Log}

-- those before it, and the last one
abbrev pub logged_next : {A : Type 0} → Log-F A (List (Out A)) → List (Out A)
logged_next Log-F.Empty = []
logged_next (Log-F.More before last) = before.value ++ last.value ∷ []

-- all of them, in order
abbrev pub logged : {A : Type 0} → Log A → List (Out A)
logged {A} = fold-Log A (List (Out A)) logged_next
