-- What a request for a new claim comes to, by what it asks for.
use Rattle.std.specs.Prelude.{◌≡◌, ℕ, ◌+◌, ◌==◌, ◌||◌, nat_lt, nat_le, List, length, Result, Ok, Err, Some, None, refl}
use Rattle.std.proofs.Common.{ap, sym, ◌∙◌}
use Rattle.std.specs.Option.{ok_or}
use Rattle.std.specs.Result.{IsErrAnd}
use Rattle.vault_state.specs.declared.claims.Item.{Item}
use Rattle.vault_state.specs.declared.claims.PathItem.{PathItem}
use Rattle.vault_state.specs.declared.claims.Standing.{Standing}
use Rattle.vault_model.specs.declared.effects.Effect.TheVariants as effects
use Rattle.vault_state.specs.declared.ids.ClaimId.TheVariants.{Long, Short}
use Rattle.vault_model.specs.declared.replies.Refusal.{Refusal}
use Rattle.vault_model.specs.declared.replies.Refusal.TheVariants.{ItemCount, NoPlace, Limit}
use Rattle.vault_state.specs.declared.session.Session.{Session}
use Rattle.vault_model.specs.Said.{Reply}
use Rattle.vault_model.specs.Changes.{with_check_out, with_hold}
use Rattle.vault_state.specs.Claims.{standing_behind}
use Rattle.vault_state.specs.Limits.{most_items, most_claims, last_number}
use Rattle.vault_model.specs.Step.{Outcome, chained, refuse_if, placed, asked, check_out, hold}
use Rattle.vault_state.specs.Vault.{Vault}
use Rattle.check_outs.specs.declared.stop.Stop.{Stop}
use Rattle.check_outs.specs.declared.stop.Stop.TheVariants.{OutOfMemory}
use Rattle.vault_checkout.specs.declared.done.Done.{Done}
use Rattle.vault_checkout.specs.Done.{Follows}
use Rattle.vault_checkout.specs.Wanted.{wanted_items}
use Rattle.vault_checkout.proofs.Following.{follows_memory}

in_turn : (r1 : Result (Unit {0}) Refusal) (r2 : Result (List Item) Refusal) (r3 : Result (Unit {0}) Refusal) (f : List Item → Result Outcome Refusal)
    → chained r1 (λ _. chained r2 (λ items. chained r3 (λ _. f items))) ≡ chained (chained r1 (λ _. chained r2 (λ items. chained r3 (λ _. Ok items)))) f
unfolding chained
in_turn (Err r) r2 r3 f = refl
in_turn (Ok x) (Err r) r3 f = refl
in_turn (Ok x) (Ok items) (Err r) f = refl
in_turn (Ok x) (Ok items) (Ok y) f = refl

-- what `checkout` comes to, where what it asks for is refused, and where it isn't
module _ (v : Vault) (designer : List ℕ) (wanted : List PathItem) (claims last : ℕ) (all : claims ≡ length v.line) (latest : last ≡ v.last_long) where
  abbrev new_check_out : List Item → Result Outcome Refusal
  new_check_out items =
      Ok (record {
        reply = asked (Long (v.last_long + 1)) (standing_behind v.tree v.line items);
        vault = with_check_out v (v.last_long + 1) designer items;
        effect = Some (effects.Asked (v.last_long + 1) designer items);
      })

  check_out_by : check_out v designer wanted ≡ chained (wanted_items v.tree claims last wanted) new_check_out
  unfolding check_out wanted_items
  check_out_by =
      rw (all, latest) (in_turn (refuse_if ((length wanted == 0) || nat_lt most_items (length wanted)) ItemCount) (ok_or (placed v.tree wanted) NoPlace) (refuse_if (nat_le most_claims (length v.line) || (v.last_long == last_number)) Limit) new_check_out)

  pub check_out_refused : (why : Refusal) → Err why ≡ wanted_items v.tree claims last wanted → check_out v designer wanted ≡ Err why
  unfolding chained
  check_out_refused why e = check_out_by ∙ ap (λ r. chained r new_check_out) (sym e)

  checked_out : (items : List Item) → Ok items ≡ wanted_items v.tree claims last wanted → check_out v designer wanted ≡ new_check_out items
  unfolding chained
  checked_out items e = check_out_by ∙ ap (λ r. chained r new_check_out) (sym e)

  pub told_check_out : (items : List Item) (standing : Standing) (w : Vault) (number : ℕ) (reply : Reply) → Ok items ≡ wanted_items v.tree claims last wanted → standing ≡ standing_behind v.tree v.line items
      → w ≡ with_check_out v (v.last_long + 1) designer items → number ≡ w.last_long → reply ≡ asked (Long number) standing
      → check_out v designer wanted ≡ Ok (record { reply = reply; vault = w; effect = Some (effects.Asked number designer items) })
  told_check_out items standing w number reply e stands made counts told =
      let next : number ≡ v.last_long + 1 = counts ∙ ap (λ (u : Vault). u.last_long) made in
      rw (told, next, stands, made) (checked_out items e)

  pub check_out_in_vain : {A : Type 0} (items : List Item) (result : Result (Done A) Stop) (w : Vault) → Ok items ≡ wanted_items v.tree claims last wanted → IsErrAnd result (λ (e : Stop). e ≡ OutOfMemory) → w ≡ v → Follows v result w (check_out v designer wanted)
  check_out_in_vain items result w e memory same = follows_memory v w result (check_out v designer wanted) _ memory (checked_out items e) same

-- the same of `hold`
module _ (v : Vault) (session : Session) (wanted : List PathItem) (claims last : ℕ) (all : claims ≡ length v.line) (latest : last ≡ v.last_short) where
  abbrev new_hold : List Item → Result Outcome Refusal
  new_hold items =
      Ok (record {
        reply = asked (Short (v.last_short + 1)) (standing_behind v.tree v.line items);
        vault = with_hold v (v.last_short + 1) session.number items;
        effect = None;
      })

  hold_by : hold v session wanted ≡ chained (wanted_items v.tree claims last wanted) new_hold
  unfolding hold wanted_items
  hold_by =
      rw (all, latest) (in_turn (refuse_if ((length wanted == 0) || nat_lt most_items (length wanted)) ItemCount) (ok_or (placed v.tree wanted) NoPlace) (refuse_if (nat_le most_claims (length v.line) || (v.last_short == last_number)) Limit) new_hold)

  pub hold_refused : (why : Refusal) → Err why ≡ wanted_items v.tree claims last wanted → hold v session wanted ≡ Err why
  unfolding chained
  hold_refused why e = hold_by ∙ ap (λ r. chained r new_hold) (sym e)

  held : (items : List Item) → Ok items ≡ wanted_items v.tree claims last wanted → hold v session wanted ≡ new_hold items
  unfolding chained
  held items e = hold_by ∙ ap (λ r. chained r new_hold) (sym e)

  pub told_hold : (items : List Item) (standing : Standing) (w : Vault) (number : ℕ) (reply : Reply) → Ok items ≡ wanted_items v.tree claims last wanted → standing ≡ standing_behind v.tree v.line items
      → w ≡ with_hold v (v.last_short + 1) session.number items → number ≡ w.last_short → reply ≡ asked (Short number) standing
      → hold v session wanted ≡ Ok (record { reply = reply; vault = w; effect = None })
  told_hold items standing w number reply e stands made counts told =
      let next : number ≡ v.last_short + 1 = counts ∙ ap (λ (u : Vault). u.last_short) made in
      rw (told, next, stands, made) (held items e)

  pub hold_in_vain : {A : Type 0} (items : List Item) (result : Result (Done A) Stop) (w : Vault) → Ok items ≡ wanted_items v.tree claims last wanted → IsErrAnd result (λ (e : Stop). e ≡ OutOfMemory) → w ≡ v → Follows v result w (hold v session wanted)
  hold_in_vain items result w e memory same = follows_memory v w result (hold v session wanted) _ memory (held items e) same
