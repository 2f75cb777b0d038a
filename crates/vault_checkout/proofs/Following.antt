-- What a command's function passes on of a call that it made.
use Rattle.std.specs.Prelude.{◌≡◌, Result, Ok, Err, OnErr, refl}
use Rattle.std.proofs.Common.{subst, sym}
use Rattle.std.specs.Result.{IsErrAnd}
use Rattle.vault_model.specs.declared.replies.Refusal.{Refusal}
use Rattle.vault_state.specs.Vault.{Vault}
use Rattle.vault_model.specs.Step.{Outcome}
use Rattle.vault_checkout.specs.declared.done.Done.{Done}
use Rattle.check_outs.specs.declared.stop.Stop.{Stop}
use Rattle.check_outs.specs.declared.stop.Stop.TheVariants.{Refused, OutOfMemory}
use Rattle.vault_checkout.specs.Done.{Follows}

-- a refusal
pub follows_refused : {A : Type 0} (v : Vault) (result : Result (Done A) Stop) (why : Refusal) (decision : Result Outcome Refusal) → IsErrAnd result (λ (e : Stop). e ≡ Refused why) → decision ≡ Err why → Follows v result v decision
follows_refused v (Ok x) why decision is e = absurd is
follows_refused v (Err (Refused r)) why decision is e = let same : r ≡ why = cc in (subst (λ (q : Refusal). decision ≡ Err q) (sym same) e, refl)
follows_refused v (Err OutOfMemory) why decision is e = absurd (cc)

-- out of memory for what isn't refused
pub follows_memory : {A : Type 0} (v w : Vault) (result : Result (Done A) Stop) (decision : Result Outcome Refusal) (outcome : Outcome) → IsErrAnd result (λ (e : Stop). e ≡ OutOfMemory) → decision ≡ Ok outcome → w ≡ v → Follows v result w decision
follows_memory v w (Ok x) decision outcome is e same = absurd is
follows_memory v w (Err (Refused r)) decision outcome is e same = absurd (cc)
follows_memory v w (Err OutOfMemory) decision outcome is e same = (rw e refl, same)

-- what holds holds on an error, too
pub on_error : {T E : Type 0} (P : Type 0) (result : Result T E) → P → OnErr result P
on_error P (Ok x) holds = tt
on_error P (Err e) holds = holds
