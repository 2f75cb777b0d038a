-- A check-in leaves the weight, and is refused by a limit only for parts that are full.
use Rattle.std.specs.Prelude.{◌≡◌, ℕ, zero, suc, ◌+◌, ◌<◌, ◌≤◌, ◌==◌, ◌&&◌, nat_le, Bool, true, false, not, List, [], ◌∷◌, length, map, slice_index_or, filter, count_by, Option, None, Some, Result, Ok, Err, All, refl}
use Rattle.std.proofs.Common.{ap, sym, subst, ◌∙◌, cond, arith}
use Rattle.std.specs.List.{list_all, Contains, AllByRecursion}
use Rattle.std.specs.Option.{ok_or}
use Rattle.std.proofs.lemmas.Bool.Decides.{nat_tests}
use Rattle.std.proofs.lemmas.List.Elements.{All-head, All-tail}
use Rattle.std.proofs.lemmas.List.Sums.{sum_by-cons}
use Rattle.std.proofs.lemmas.List.Folds.{list_all_at}
use Rattle.vault_state.specs.declared.place.Place.{Place}
use Rattle.vault_state.specs.declared.claims.Claim.{Claim}
use Rattle.vault_state.specs.declared.session.Session.{Session}
use Rattle.vault_state.specs.declared.ids.ClaimId.TheVariants.{Long}
use Rattle.vault_model.specs.declared.commands.Command.TheVariants as commands
use Rattle.vault_model.specs.declared.replies.Refusal.{Refusal}
use Rattle.vault_model.specs.declared.replies.Refusal.TheVariants.{NoSession, Limit}
use Rattle.vault_model.specs.declared.replies.Reply.TheVariants as replies
use Rattle.vault_model.specs.declared.effects.Effect.TheVariants as effects
use Rattle.vault_state.specs.Limits.{longest_content, most_versions, most_weight}
use Rattle.vault_state.specs.Shelf.{Draft, versions_of, weight, drafts_weight, is_shelvable}
use Rattle.vault_state.specs.Drafts.{SavedDraft, comes_before, drafts_of, IsOrdered}
use Rattle.vault_state.specs.Vault.{Vault, IsDraft, IsVault, session_of, weight_of}
use Rattle.vault_model.specs.Changes.{with_versions}
use Rattle.vault_model.specs.Step.{Outcome, ◌>>=◌, chained, refuse_if, usable, check_in, at_door, in_session, decide, outcome_of, step}
use Rattle.vault_model.specs.Laws.{CheckInKeepsTheWeight, CheckInIsRefusedForFullParts}
use Rattle.vault_state.proofs.Overlaps.{eq_from}
use Rattle.vault_state.proofs.Shelves.{are_short, have_room, few_at, le_true, shelvable-is, weight-shelved_all}
use Rattle.vault_model.proofs.Kept.{split_weight}
use Rattle.vault_model.proofs.Transitions.{by_count}

-- what a decision leaves weighs what there was
abbrev weighs : Vault → Result Outcome Refusal → Type 0
weighs v (Ok outcome) = weight_of outcome.vault ≡ weight_of v
weighs v (Err refusal) = Unit {0}

versions_weigh : (v : Vault) (number : ℕ) → weight_of (with_versions v number) ≡ weight_of v
versions_weigh v number = omega (arith, weight-shelved_all v.shelf (drafts_of v.drafts number), split_weight number v.drafts)

-- the last line of a check-in, by whether the shelf takes its drafts
abbrev decided : Vault → ℕ → Bool → Result Outcome Refusal
decided v number fits =
    refuse_if (not fits) Limit
    >>= λ _. Ok (record { reply = replies.CheckedIn (length (drafts_of v.drafts number)); vault = with_versions v number; effect = Some (effects.CheckedIn number) })

check_in_is : (v : Vault) (session : Session) (number : ℕ) → check_in v session number ≡ (usable v session (Long number) >>= λ _. decided v number (is_shelvable v.shelf (drafts_of v.drafts number)))
unfolding check_in
check_in_is v session number = refl

decided_weighs : (v : Vault) (number : ℕ) (fits : Bool) → weighs v (decided v number fits)
unfolding chained
decided_weighs v number true = versions_weigh v number
decided_weighs v number false = tt

check_in_weighs : (v : Vault) (session : Session) (number : ℕ) → weighs v (check_in v session number)
unfolding chained
check_in_weighs v session number = subst (weighs v) (sym (check_in_is v session number)) (by_claim (usable v session (Long number)))
  where
    by_claim : (r : Result Claim Refusal) → weighs v (r >>= λ _. decided v number (is_shelvable v.shelf (drafts_of v.drafts number)))
    by_claim (Ok claim) = decided_weighs v number (is_shelvable v.shelf (drafts_of v.drafts number))
    by_claim (Err refusal) = tt

decide_weighs : (v : Vault) (n number : ℕ) → weighs v (decide v n (commands.CheckIn number))
unfolding decide chained
decide_weighs v n number = by_door (n == 0)
  where
    by_session : (o : Option Session) → weighs v (ok_or o NoSession >>= λ session. in_session v session (commands.CheckIn number))
    by_session None = tt
    by_session (Some session) = check_in_weighs v session number

    by_door : (b : Bool) → weighs v (cond b (at_door v (commands.CheckIn number)) (ok_or (session_of v.sessions n) NoSession >>= λ session. in_session v session (commands.CheckIn number)))
    by_door true = tt
    by_door false = by_session (session_of v.sessions n)

pub check_in_keeps_the_weight : CheckInKeepsTheWeight
unfolding step
check_in_keeps_the_weight v n number = by_decision (decide v n (commands.CheckIn number)) (decide_weighs v n number)
  where
    by_decision : (r : Result Outcome Refusal) → weighs v r → weight_of (outcome_of n v r).vault ≡ weight_of v
    by_decision (Ok outcome) same = by_count (λ (w : Vault). weight_of w ≡ weight_of v) n outcome.vault same same
    by_decision (Err refusal) same = by_count (λ (w : Vault). weight_of w ≡ weight_of v) n v refl refl

-- the drafts of a check-out are short, as all drafts are
drafts_short : (tree : List Place) (line : List Claim) (number : ℕ) (xs : List SavedDraft) → All (IsDraft tree line) xs → are_short (drafts_of xs number) ≡ true
drafts_short tree line number [] all = refl
drafts_short tree line number (x ∷ xs) all = by_test (x.claim == number) (drafts_short tree line number xs (All-tail (IsDraft tree line) x xs all))
  where
    short : nat_le (length x.draft.content) longest_content ≡ true
    short = le_true _ _ (All-head (IsDraft tree line) x xs all).short

    by_test : (b : Bool) → are_short (drafts_of xs number) ≡ true → are_short (map (λ (y : SavedDraft). y.draft) (cond b (x ∷ filter (λ (y : SavedDraft). y.claim == number) xs) (filter (λ (y : SavedDraft). y.claim == number) xs))) ≡ true
    by_test true rest = rw (short, rest) refl
    by_test false rest = rest

-- whether the shelf takes the drafts of a check-out is whether their places have room, since they are short and weigh what they did
fits_is : (v : Vault) (number : ℕ) → IsVault v → is_shelvable v.shelf (drafts_of v.drafts number) ≡ have_room v.shelf (drafts_of v.drafts number)
fits_is v number kept =
    shelvable-is v.shelf (drafts_of v.drafts number) kept.versions.shelf_is.few
    ∙ rw (drafts_short v.tree v.line number v.drafts kept.drafts.each, light) refl
  where
    light : nat_le (weight v.shelf + drafts_weight (drafts_of v.drafts number)) most_weight ≡ true
    light = le_true _ _ (omega (arith, split_weight number v.drafts, kept.light))

-- drafts behind one of the same check-out are of later places
behind : (x : SavedDraft) (number : ℕ) (xs : List SavedDraft) → x.claim ≡ number → AllByRecursion (λ y. comes_before x y ≡ true) xs → AllByRecursion (λ (d : Draft). x.draft.place < d.place) (drafts_of xs number)
behind x number [] own before = tt
behind x number (y ∷ xs) own before = by_test (y.claim == number) refl (behind x number xs own before.1)
  where
    later : y.claim ≡ number → x.draft.place < y.draft.place
    later same = grind (arith, nat_tests, before.0, own, same)

    by_test : (b : Bool) → (y.claim == number) ≡ b → AllByRecursion (λ (d : Draft). x.draft.place < d.place) (drafts_of xs number)
        → AllByRecursion (λ (d : Draft). x.draft.place < d.place) (map (λ (z : SavedDraft). z.draft) (cond b (y ∷ filter (λ (z : SavedDraft). z.claim == number) xs) (filter (λ (z : SavedDraft). z.claim == number) xs)))
    by_test true e rest = (later (eq_from y.claim number e), rest)
    by_test false e rest = rest

counted_none : (place : ℕ) (ds : List Draft) → AllByRecursion (λ (d : Draft). place < d.place) ds → count_by (λ (d : Draft). d.place == place) ds ≡ 0
counted_none place [] later = refl
counted_none place (d ∷ ds) later =
    let counted = sum_by-cons (λ (e : Draft). cond (e.place == place) 1 0) d ds in
    let other : (d.place == place) ≡ false = grind (arith, nat_tests, later.0) in
    let first : ◌≡◌ {A = ℕ} (cond (d.place == place) 1 0) 0 = ap (λ b. cond b 1 0) other in
    omega (arith, counted, first, counted_none place ds later.1)

later_at : (place : ℕ) (ds : List Draft) (k : ℕ) (d : Draft) → AllByRecursion (λ (e : Draft). place < e.place) ds → k < length ds → slice_index_or ds k d ≡ d → place < d.place
later_at place [] k d later inside here = absurd (omega (arith, inside))
later_at place (x ∷ ds) zero d later inside here = subst (λ (e : Draft). place < e.place) here later.0
later_at place (x ∷ ds) (suc k) d later inside here = later_at place ds k d later.1 (omega (arith, inside)) here

-- a check-out has one draft of a place at most
counted_once : (xs : List SavedDraft) (number k : ℕ) (d : Draft) → IsOrdered xs → k < length (drafts_of xs number) → slice_index_or (drafts_of xs number) k d ≡ d → count_by (λ (e : Draft). e.place == d.place) (drafts_of xs number) ≡ 1
unfolding IsOrdered
counted_once [] number k d ordered inside here = absurd (omega (arith, inside))
counted_once (x ∷ xs) number k d ordered inside here = by_test (x.claim == number) refl k inside here (λ j inner at. counted_once xs number j d ordered.1 inner at)
  where
    more : (place : ℕ) → count_by (λ (e : Draft). e.place == place) (x.draft ∷ drafts_of xs number) ≡ cond (x.draft.place == place) 1 0 + count_by (λ (e : Draft). e.place == place) (drafts_of xs number)
    more place = sum_by-cons (λ (e : Draft). cond (e.place == place) 1 0) x.draft (drafts_of xs number)

    of_first : x.claim ≡ number → x.draft ≡ d → count_by (λ (e : Draft). e.place == d.place) (x.draft ∷ drafts_of xs number) ≡ 1
    of_first own same =
        let place : x.draft.place ≡ d.place = ap (λ (e : Draft). e.place) same in
        let one : (x.draft.place == d.place) ≡ true = grind (arith, nat_tests, place) in
        let first : ◌≡◌ {A = ℕ} (cond (x.draft.place == d.place) 1 0) 1 = ap (λ b. cond b 1 0) one in
        let none = counted_none d.place (drafts_of xs number) (subst (λ p. AllByRecursion (λ (e : Draft). p < e.place) (drafts_of xs number)) place (behind x number xs own ordered.0)) in
        omega (arith, more d.place, first, none)

    of_later : x.claim ≡ number → (j : ℕ) → j < length (drafts_of xs number) → slice_index_or (drafts_of xs number) j d ≡ d → count_by (λ (e : Draft). e.place == d.place) (drafts_of xs number) ≡ 1 → count_by (λ (e : Draft). e.place == d.place) (x.draft ∷ drafts_of xs number) ≡ 1
    of_later own j inner at once =
        let later = later_at x.draft.place (drafts_of xs number) j d (behind x number xs own ordered.0) inner at in
        let other : (x.draft.place == d.place) ≡ false = grind (arith, nat_tests, later) in
        let first : ◌≡◌ {A = ℕ} (cond (x.draft.place == d.place) 1 0) 0 = ap (λ b. cond b 1 0) other in
        omega (arith, more d.place, first, once)

    by_index : x.claim ≡ number → (j : ℕ) → j < suc (length (drafts_of xs number)) → slice_index_or (x.draft ∷ drafts_of xs number) j d ≡ d
        → ((m : ℕ) → m < length (drafts_of xs number) → slice_index_or (drafts_of xs number) m d ≡ d → count_by (λ (e : Draft). e.place == d.place) (drafts_of xs number) ≡ 1) → count_by (λ (e : Draft). e.place == d.place) (x.draft ∷ drafts_of xs number) ≡ 1
    by_index own zero inner at rest = of_first own at
    by_index own (suc j) inner at rest = let within : j < length (drafts_of xs number) = omega (arith, inner) in of_later own j within at (rest j within at)

    by_test : (b : Bool) → (x.claim == number) ≡ b → (j : ℕ) → j < length (map (λ (z : SavedDraft). z.draft) (cond b (x ∷ filter (λ (z : SavedDraft). z.claim == number) xs) (filter (λ (z : SavedDraft). z.claim == number) xs)))
        → slice_index_or (map (λ (z : SavedDraft). z.draft) (cond b (x ∷ filter (λ (z : SavedDraft). z.claim == number) xs) (filter (λ (z : SavedDraft). z.claim == number) xs))) j d ≡ d
        → ((m : ℕ) → m < length (drafts_of xs number) → slice_index_or (drafts_of xs number) m d ≡ d → count_by (λ (e : Draft). e.place == d.place) (drafts_of xs number) ≡ 1) → count_by (λ (e : Draft). e.place == d.place) (map (λ (z : SavedDraft). z.draft) (cond b (x ∷ filter (λ (z : SavedDraft). z.claim == number) xs) (filter (λ (z : SavedDraft). z.claim == number) xs))) ≡ 1
    by_test true e j inner at rest = by_index (eq_from x.claim number e) j inner at rest
    by_test false e j inner at rest = rest j inner at

-- where not all pass a test, one fails it
failing : {X : Type 0} (p : X → Bool) (xs : List X) → list_all p xs ≡ false → (x : X) × Contains xs x × (p x ≡ false)
failing p [] e = cc
failing {X} p (x ∷ xs) e = by_first (p x) refl e (failing p xs)
  where
    by_first : (b : Bool) → p x ≡ b → (b && list_all p xs) ≡ false → (list_all p xs ≡ false → (y : X) × Contains xs y × (p y ≡ false)) → (y : X) × Contains (x ∷ xs) y × (p y ≡ false)
    by_first false here h rest = (x, (0, omega arith, refl), here)
    by_first true here h rest = let found = rest h in (found.0, (suc found.1.0, (let inside = found.1.1 in omega (arith, inside)), found.1.2), found.2)

-- the test of a draft's place
abbrev room_at : List (List (List ℕ)) → List Draft → Draft → Bool
room_at shelf drafts d = nat_le (length (versions_of shelf d.place) + count_by (λ (e : Draft). e.place == d.place) drafts) most_versions

full_at : (n k : ℕ) → k ≡ 1 → n ≤ most_versions → nat_le (n + k) most_versions ≡ false → n ≡ most_versions
full_at n k one few fails = grind (arith, nat_tests, one, few, fails)

over : (n k : ℕ) → k ≡ 1 → n ≡ most_versions → nat_le (n + k) most_versions ≡ false
over n k one full = grind (arith, nat_tests, one, full)

-- what a check-in answers, by whether the shelf takes its drafts
abbrev decided_as : Vault → ℕ → Bool → Result Outcome Refusal
decided_as v number true = Ok (record { reply = replies.CheckedIn (length (drafts_of v.drafts number)); vault = with_versions v number; effect = Some (effects.CheckedIn number) })
decided_as v number false = Err Limit

decided_is : (v : Vault) (number : ℕ) (fits : Bool) → decided v number fits ≡ decided_as v number fits
unfolding chained
decided_is v number true = refl
decided_is v number false = refl

used_as : (v : Vault) (session : Session) (number : ℕ) (claim : Claim) → usable v session (Long number) ≡ Ok claim → (fits : Bool) → (usable v session (Long number) >>= λ _. decided v number fits) ≡ decided v number fits
unfolding chained
used_as v session number claim used fits = ap (λ r. chained r (λ _. decided v number fits)) used

pub check_in_is_refused : CheckInIsRefusedForFullParts
check_in_is_refused v session number claim kept used = (there, back)
  where
    one : (d : Draft) → Contains (drafts_of v.drafts number) d → count_by (λ (e : Draft). e.place == d.place) (drafts_of v.drafts number) ≡ 1
    one d at = counted_once v.drafts number at.0 d kept.drafts.ordered at.1 at.2

    answer : (b : Bool) → is_shelvable v.shelf (drafts_of v.drafts number) ≡ b → check_in v session number ≡ decided_as v number b
    answer b e = check_in_is v session number ∙ used_as v session number claim used (is_shelvable v.shelf (drafts_of v.drafts number)) ∙ ap (decided v number) e ∙ decided_is v number b

    there : check_in v session number ≡ Err Limit → (d : Draft) × Contains (drafts_of v.drafts number) d × (length (versions_of v.shelf d.place) ≡ most_versions)
    there e =
        let found = failing (room_at v.shelf (drafts_of v.drafts number)) (drafts_of v.drafts number) (sym (fits_is v number kept) ∙ unfit e (is_shelvable v.shelf (drafts_of v.drafts number)) refl) in
        let few = few_at v.shelf found.0.place kept.versions.shelf_is.few in
        (found.0, found.1, full_at (length (versions_of v.shelf found.0.place)) (count_by (λ (d : Draft). d.place == found.0.place) (drafts_of v.drafts number)) (one found.0 found.1) few found.2)
      where
        unfit : check_in v session number ≡ Err Limit → (b : Bool) → is_shelvable v.shelf (drafts_of v.drafts number) ≡ b → is_shelvable v.shelf (drafts_of v.drafts number) ≡ false
        unfit refused true fits = let done : decided_as v number true ≡ Err Limit = sym (answer true fits) ∙ refused in cc
        unfit refused false fits = fits

    back : ((d : Draft) × Contains (drafts_of v.drafts number) d × (length (versions_of v.shelf d.place) ≡ most_versions)) → check_in v session number ≡ Err Limit
    back full =
        let once = one full.0 full.1 in
        let fails : room_at v.shelf (drafts_of v.drafts number) full.0 ≡ false = over (length (versions_of v.shelf full.0.place)) (count_by (λ (e : Draft). e.place == full.0.place) (drafts_of v.drafts number)) once full.2 in
        answer false (fits_is v number kept ∙ list_all_at (room_at v.shelf (drafts_of v.drafts number)) (drafts_of v.drafts number) full.1.0 full.0 full.1.1 (ap (room_at v.shelf (drafts_of v.drafts number)) full.1.2 ∙ fails))
