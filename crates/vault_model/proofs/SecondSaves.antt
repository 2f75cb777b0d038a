-- A second save of a place replaces the first.
use Rattle.std.specs.Prelude.{◌≡◌, ℕ, Bool, true, false, not, ◌||◌, ◌&&◌, ◌==◌, nat_lt, nat_le, List, length, [], ◌∷◌, ◌++◌, filter, Option, None, Some, Result, Ok, Err, refl}
use Rattle.std.proofs.Common.{ap, sym, ◌∙◌, cond, arith}
use Rattle.std.specs.Option.{ok_or}
use Rattle.std.proofs.lemmas.Bool.Decides.{nat_tests}
use Rattle.std.proofs.lemmas.List.{append-nil}
use Rattle.std.proofs.lemmas.List.Elements.{filter-append}
use Rattle.vault_state.specs.declared.claims.Claim.{Claim}
use Rattle.vault_state.specs.declared.ids.ClaimId.TheVariants.{Long}
use Rattle.vault_state.specs.declared.session.Session.{Session}
use Rattle.vault_model.specs.declared.replies.Refusal.{Refusal}
use Rattle.vault_model.specs.declared.replies.Refusal.TheVariants.{NoPlace, WrongKind, NotCovered, Limit}
use Rattle.vault_model.specs.declared.replies.Reply.TheVariants as replies
use Rattle.vault_model.specs.declared.effects.Effect.TheVariants as effects
use Rattle.vault_state.specs.Tree.{find_place, is_part}
use Rattle.vault_state.specs.Claims.{change_set}
use Rattle.vault_state.specs.Limits.{longest_content, most_drafts, most_weight}
use Rattle.vault_state.specs.Drafts.{SavedDraft, new_draft, comes_before, with_draft, drafts_of}
use Rattle.vault_state.specs.Vault.{Vault, weight_of}
use Rattle.vault_model.specs.Step.{Outcome, ◌>>=◌, chained, refuse_if, usable, save}
use Rattle.vault_model.specs.Laws.{SecondSaveReplaces}
use Rattle.vault_model.proofs.DraftsKept.{not_both}

-- a filter keeps all that it kept before, and drops all that another kept, if nothing passes both
filter_again : {X : Type 0} (p : X → Bool) (xs : List X) → filter p (filter p xs) ≡ filter p xs
filter_again p [] = refl
filter_again p (x ∷ xs) = by_test (p x) refl (filter_again p xs)
  where
    by_test : (b : Bool) → p x ≡ b → filter p (filter p xs) ≡ filter p xs → filter p (cond b (x ∷ filter p xs) (filter p xs)) ≡ cond b (x ∷ filter p xs) (filter p xs)
    by_test true e again = rw e (ap (λ rest. x ∷ rest) again)
    by_test false e again = again

filter_none : {X : Type 0} (p q : X → Bool) (xs : List X) → ((x : X) → q x ≡ true → p x ≡ false) → filter p (filter q xs) ≡ []
filter_none p q [] never = refl
filter_none p q (x ∷ xs) never = by_test (q x) refl (filter_none p q xs never)
  where
    by_test : (b : Bool) → q x ≡ b → filter p (filter q xs) ≡ [] → filter p (cond b (x ∷ filter q xs) (filter q xs)) ≡ []
    by_test true e none = rw (never x e) none
    by_test false e none = none

-- a second draft of the same check-out and place replaces the first
pub with_draft-twice : (drafts : List SavedDraft) (number place : ℕ) (first second : List ℕ) → with_draft (with_draft drafts (new_draft number place first)) (new_draft number place second) ≡ with_draft drafts (new_draft number place second)
with_draft-twice drafts number place first second = λ i. before i ++ new_draft number place second ∷ behind i
  where
    old : SavedDraft
    old = new_draft number place first

    new : SavedDraft
    new = new_draft number place second

    not_itself : (nat_lt number number || ((number == number) && nat_lt place place)) ≡ false
    not_itself = let less : nat_lt number number ≡ false = grind (arith, nat_tests) in let lower : nat_lt place place ≡ false = grind (arith, nat_tests) in rw (less, lower) (never (number == number))
      where
        never : (b : Bool) → (b && false) ≡ false
        never true = refl
        never false = refl

    before : filter (λ x. comes_before x new) (filter (λ x. comes_before x new) drafts ++ old ∷ filter (λ x. comes_before new x) drafts) ≡ filter (λ x. comes_before x new) drafts
    before =
        filter-append (λ x. comes_before x new) (filter (λ x. comes_before x new) drafts) (old ∷ filter (λ x. comes_before new x) drafts)
        ∙ ap (λ rest. filter (λ x. comes_before x new) (filter (λ x. comes_before x new) drafts) ++ rest)
        (ap (λ b. cond b (old ∷ filter (λ x. comes_before x new) (filter (λ x. comes_before new x) drafts)) (filter (λ x. comes_before x new) (filter (λ x. comes_before new x) drafts))) not_itself
        ∙ filter_none (λ x. comes_before x new) (λ x. comes_before new x) drafts (λ x e. not_both new x e))
        ∙ append-nil (filter (λ x. comes_before x new) (filter (λ x. comes_before x new) drafts))
        ∙ filter_again (λ x. comes_before x new) drafts

    behind : filter (λ x. comes_before new x) (filter (λ x. comes_before x new) drafts ++ old ∷ filter (λ x. comes_before new x) drafts) ≡ filter (λ x. comes_before new x) drafts
    behind =
        filter-append (λ x. comes_before new x) (filter (λ x. comes_before x new) drafts) (old ∷ filter (λ x. comes_before new x) drafts)
        ∙ ap (λ rest. rest ++ filter (λ x. comes_before new x) (old ∷ filter (λ x. comes_before new x) drafts)) (filter_none (λ x. comes_before new x) (λ x. comes_before x new) drafts (λ x e. not_both x new e))
        ∙ ap (λ b. cond b (old ∷ filter (λ x. comes_before new x) (filter (λ x. comes_before new x) drafts)) (filter (λ x. comes_before new x) (filter (λ x. comes_before new x) drafts))) not_itself
        ∙ filter_again (λ x. comes_before new x) drafts

module _ (v : Vault) (session : Session) (number : ℕ) (path : List (List ℕ)) where
  -- the lines of a save's definition before the one on the limits, and then the rest
  abbrev lines : (ℕ → Result Outcome Refusal) → Result Outcome Refusal
  lines rest =
      usable v session (Long number) >>= λ claim. ok_or (find_place v.tree path) NoPlace >>= λ place. refuse_if (not (is_part v.tree place)) WrongKind
      >>= λ _. refuse_if (not (change_set v.tree claim.items place)) NotCovered >>= λ _. rest place

  -- the line on the limits and the outcome, with these as all drafts afterwards
  abbrev ends : List SavedDraft → ℕ → List ℕ → Result Outcome Refusal
  ends drafts place content =
      refuse_if (not (nat_le (length content) longest_content && nat_le (length (drafts_of drafts number)) most_drafts && nat_le (weight_of (record v { drafts = drafts })) most_weight)) Limit
      >>= λ _. Ok (record { reply = replies.Saved; vault = record v { drafts = drafts }; effect = Some (effects.Saved number place content) })

  save_is : (drafts : List SavedDraft) (content : List ℕ) → save (record v { drafts = drafts }) session number path content ≡ lines (λ place. ends (with_draft drafts (new_draft number place content)) place content)
  unfolding save usable
  save_is drafts content = refl

  -- where the whole succeeds, none of these lines refuses, whatever the rest is
  passed : (rest : ℕ → Result Outcome Refusal) (outcome : Outcome) → lines rest ≡ Ok outcome → (place : ℕ) × (rest place ≡ Ok outcome) × ((other : ℕ → Result Outcome Refusal) → lines other ≡ other place)
  unfolding chained
  passed rest outcome e = by_claim (usable v session (Long number)) e
    where
      lines_of : Result Claim Refusal → (ℕ → Result Outcome Refusal) → Result Outcome Refusal
      lines_of r other =
          r >>= λ claim. ok_or (find_place v.tree path) NoPlace >>= λ place. refuse_if (not (is_part v.tree place)) WrongKind
          >>= λ _. refuse_if (not (change_set v.tree claim.items place)) NotCovered >>= λ _. other place

      by_claim : (r : Result Claim Refusal) → lines_of r rest ≡ Ok outcome → (place : ℕ) × (rest place ≡ Ok outcome) × ((other : ℕ → Result Outcome Refusal) → lines_of r other ≡ other place)
      by_claim (Err refusal) h = cc
      by_claim (Ok claim) h = by_place (find_place v.tree path) h
        where
          lines_at : Option ℕ → (ℕ → Result Outcome Refusal) → Result Outcome Refusal
          lines_at o other =
              ok_or o NoPlace >>= λ place. refuse_if (not (is_part v.tree place)) WrongKind
              >>= λ _. refuse_if (not (change_set v.tree claim.items place)) NotCovered >>= λ _. other place

          by_place : (o : Option ℕ) → lines_at o rest ≡ Ok outcome → (place : ℕ) × (rest place ≡ Ok outcome) × ((other : ℕ → Result Outcome Refusal) → lines_at o other ≡ other place)
          by_place None k = cc
          by_place (Some place) k = by_tests (is_part v.tree place) (change_set v.tree claim.items place) k
            where
              by_tests : (part changed : Bool) → (refuse_if (not part) WrongKind >>= λ _. refuse_if (not changed) NotCovered >>= λ _. rest place) ≡ Ok outcome
                  → (p : ℕ) × (rest p ≡ Ok outcome) × ((other : ℕ → Result Outcome Refusal) → (refuse_if (not part) WrongKind >>= λ _. refuse_if (not changed) NotCovered >>= λ _. other place) ≡ other p)
              by_tests false changed l = cc
              by_tests true false l = cc
              by_tests true true l = (place, l, λ other. refl)

  saved_are : (drafts : List SavedDraft) (place : ℕ) (content : List ℕ) (outcome : Outcome) → ends drafts place content ≡ Ok outcome → outcome.vault ≡ record v { drafts = drafts }
  unfolding chained
  saved_are drafts place content outcome e = by_test (nat_le (length content) longest_content && nat_le (length (drafts_of drafts number)) most_drafts && nat_le (weight_of (record v { drafts = drafts })) most_weight) e
    where
      by_test : (b : Bool) → (refuse_if (not b) Limit >>= λ _. Ok (record { reply = replies.Saved; vault = record v { drafts = drafts }; effect = Some (effects.Saved number place content) })) ≡ Ok outcome → outcome.vault ≡ record v { drafts = drafts }
      by_test false h = cc
      by_test true h = let same : record { reply = replies.Saved; vault = record v { drafts = drafts }; effect = Some (effects.Saved number place content) } ≡ outcome = cc in ap (λ (o : Outcome). o.vault) (sym same)

pub second_save_replaces : SecondSaveReplaces
second_save_replaces v session number path first second saved e =
    let led = passed v session number path (λ place. ends v session number path (with_draft v.drafts (new_draft number place first)) place first) saved (sym (save_is v session number path v.drafts first) ∙ e) in
    let place = led.0 in
    let all = with_draft v.drafts (new_draft number place first) in
    let vault : saved.vault ≡ record v { drafts = all } = saved_are v session number path all place first saved led.1 in
    ap (λ (w : Vault). save w session number path second) vault
    ∙ save_is v session number path all second
    ∙ led.2 (λ p. ends v session number path (with_draft all (new_draft number p second)) p second)
    ∙ ap (λ drafts. ends v session number path drafts place second) (with_draft-twice v.drafts number place first second)
    ∙ sym (led.2 (λ p. ends v session number path (with_draft v.drafts (new_draft number p second)) p second))
    ∙ sym (save_is v session number path v.drafts second)
