-- Refusals that are passed on.
use Rattle.std.proofs.Common.{◌≡◌, Result, Ok, Err, sym, ◌∙◌, ap}
use Rattle.std.specs.Result.{IsErrAnd}
use Rattle.vault_format.specs.declared.error.SnapshotError.{SnapshotError}
use Rattle.vault_format.specs.declared.error.SnapshotError.TheVariants.{NotWellFormed}

-- the error that was passed on is the one that came
pub same_error : {T : Type 0} (result : Result T SnapshotError) (why told : SnapshotError) → IsErrAnd result (λ (e : SnapshotError). e ≡ why) → result ≡ Err told → why ≡ told
same_error (Ok x) why told is same = absurd is
same_error (Err e) why told is same = sym is ∙ cc

-- what was said of it is so
pub passed : {T U P : Type 0} (result : Result T SnapshotError) (why : SnapshotError) → IsErrAnd result (λ (e : SnapshotError). e ≡ why) → (◌≡◌ {A = Result U SnapshotError} (Err why) (Err NotWellFormed) → P) → result ≡ Err NotWellFormed → P
passed {T} {U} result why is told same = told (ap (λ (e : SnapshotError). Err e) (same_error result why NotWellFormed is same))

-- a call that gave a value was not refused
pub none_refused : {T P : Type 0} (x : T) (told : SnapshotError) → ◌≡◌ {A = Result T SnapshotError} (Ok x) (Err told) → P
none_refused x told same = cc
