-- What a command's definition comes to, line by line, where it doesn't refuse.
use Rattle.std.specs.Prelude.{◌≡◌, Option, None, Some, Result, Ok, Err, IfOk, Bool, true, false, refl}
use Rattle.std.specs.Option.{ok_or}
use Rattle.std.proofs.Common.{subst}
use Rattle.vault_model.specs.declared.replies.Refusal.{Refusal}
use Rattle.vault_model.specs.Step.{Outcome, chained, refuse_if, ◌>>=◌}

pub follows : (P : Outcome → Type 0) {X : Type 0} (r : Result X Refusal) (f : X → Result Outcome Refusal) → ((x : X) → r ≡ Ok x → IfOk (f x) P) → IfOk (r >>= f) P
unfolding chained
follows P (Ok x) f next = next x refl
follows P (Err e) f next = tt

pub done_is : (P : Outcome → Type 0) (r : Result Outcome Refusal) (done : Outcome) → IfOk r P → r ≡ Ok done → P done
done_is P (Ok outcome) done is e = let same : outcome ≡ done = cc in subst P same is
done_is P (Err refusal) done is e = cc

pub some_of : {X : Type 0} (o : Option X) (e : Refusal) (x : X) → ok_or o e ≡ Ok x → o ≡ Some x
some_of None e x h = cc
some_of (Some y) e x h = let same : y ≡ x = cc in subst (λ z. Some y ≡ Some z) same refl

pub fails_not : (b : Bool) (e : Refusal) (x : Unit {0}) → refuse_if b e ≡ Ok x → b ≡ false
fails_not true e x h = cc
fails_not false e x h = refl
