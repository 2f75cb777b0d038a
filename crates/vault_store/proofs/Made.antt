-- Why effects were not applied.
use Rattle.std.proofs.Common.{◌≡◌, ◌+◌, ◌<◌, List, ◌∷◌, length, get_or, drop, ℕ, Option, Some, None, Result, Ok, Err, IfErr, refl, sym, ◌∙◌, ap}
use Rattle.std.specs.Option.{option_and_then}
use Rattle.std.specs.Result.{IsErrAnd}
use Rattle.std.proofs.lemmas.List.{drop_more}
use Rattle.vault_model.specs.After.{after}
use Rattle.vault_checkout.specs.Applied.{Applies}
use Rattle.vault_model.specs.Said.{Effect}
use Rattle.vault_state.specs.Vault.{Vault}
use Rattle.vault_journal.specs.Rows.{AreRecordsOf}
use Rattle.vault_journal.proofs.OneSpelling.{one_row}
use Rattle.vault_checkout.specs.declared.apply.ApplyError.{ApplyError}
use Rattle.vault_checkout.specs.declared.apply.ApplyError.TheVariants.{NotApplicable, NoMemory}
use Rattle.vault_format.specs.Files.{applied}
use Rattle.vault_store.specs.Read.{AreNotMade}

pub none_made : (bytes : List ℕ) (old : Vault) (effects : List Effect) (result : Result (Unit {0}) ApplyError) → AreRecordsOf effects bytes → (result ≡ Err NotApplicable → applied old effects ≡ None) → IfErr result (λ (why : ApplyError). AreNotMade bytes old why)
none_made bytes old effects (Ok done) records none = tt
none_made bytes old effects (Err NotApplicable) records none = λ others next are leads.
    let same = one_row effects others bytes records are in
    let is_none : applied old others ≡ None = ap (λ (es : List Effect). applied old es) (sym same) ∙ none refl in cc
none_made bytes old effects (Err NoMemory) records none = tt

-- effects that are applied one after the other
module _ (start v w : Vault) (effects : List Effect) (i : ℕ) (effect : Effect) (here : i < length effects) (is : effect ≡ get_or effects i effect) where
  next_made : applied v (drop i effects) ≡ option_and_then (λ (next : Vault). applied next (drop (i + 1) effects)) (after v effect)
  next_made = ap (λ (es : List Effect). applied v es) (drop_more effects i effect here) ∙ ap (λ (e : Effect). applied v (e ∷ drop (i + 1) effects)) (sym is)

  pub one_made : after v effect ≡ Some w → applied start effects ≡ applied v (drop i effects) → applied start effects ≡ applied w (drop (i + 1) effects)
  one_made leads so_far = so_far ∙ next_made ∙ ap (λ (o : Option Vault). option_and_then (λ (next : Vault). applied next (drop (i + 1) effects)) o) leads

  pub one_unmade : applied start effects ≡ applied v (drop i effects) → (result : Result (Unit {0}) ApplyError) (why : ApplyError) → Applies v (Err why) w (after v effect) → IsErrAnd result (λ (e : ApplyError). e ≡ why) → result ≡ Err NotApplicable
      → applied start effects ≡ None
  one_unmade so_far result NotApplicable none told same = so_far ∙ next_made ∙ ap (λ (o : Option Vault). option_and_then (λ (next : Vault). applied next (drop (i + 1) effects)) o) none.0
  one_unmade so_far (Ok done) NoMemory none told same = absurd told
  one_unmade so_far (Err e) NoMemory none told same = cc
