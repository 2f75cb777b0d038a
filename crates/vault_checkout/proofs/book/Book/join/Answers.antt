use Rattle.vault_state.specs.Limits.{most_sessions, last_number}
use Rattle.vault_model.specs.Step.{join, chained}
use Rattle.std.proofs.Common.{◌≡◌, ◌==◌, refl, rules, arith, ◌<◌, false, length}
use Rattle.std.proofs.lemmas.Bool.Decides.{nat_tests}
use Rattle.std.specs.Prelude.{nat_le}
use Rattle.vault_model.proofs.Kept.{kept_joined}
use Rattle.vault_checkout.proofs.Counting.{counts_joined}
use Rattle.vault_checkout.specs.Seen.{vault_of}
use Rattle.vault_checkout.proofs.book.Book.join.Goals as goal

pub invariant_of-self-2 : goal.invariant_of-self-2
invariant_of-self-2 g c =
    let room : length c.self.inside.sessions.items < most_sessions = search rules in
    let below : c.self.inside.last_session < last_number = let other = c.if-self.false in let most = c.self.invariant.0.numbers.session in grind (arith, nat_tests, other, most) in
    rw c.in_ok-push.ensures.items (kept_joined (vault_of c.self.inside) c.self.invariant.0 _ refl below room, c.self.invariant.1, c.self.invariant.2)

pub returns-clause-counts : goal.returns-clause-counts
returns-clause-counts g c = λ bound h. rw c.in_ok-push.ensures.items (counts_joined bound (vault_of c.self.inside) _ _ refl (rw (← c.self.view_is) at h))

pub returns-clause-told : goal.returns-clause-told
unfolding join chained
returns-clause-told g c =
    let full : nat_le most_sessions (length c.self.inside.sessions.items) ≡ false = let few = c.if-len-ge-MAX_SESSIONS.false in grind (arith, nat_tests, few) in
    let spent : (c.self.inside.last_session == last_number) ≡ false = let other = c.if-self.false in grind (arith, nat_tests, other) in
    rw (← c.self.view_is, c.in_ok-push.ensures.items, full, spent) refl
