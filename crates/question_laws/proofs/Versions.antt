-- The drafts that are listed are the versions that a check-in makes.
use Rattle.std.specs.Prelude.{◌≡◌, ℕ, zero, suc, ◌<◌, ◌≤◌, ◌⊎◌, ◌==◌, not, Bool, true, false, List, [], ◌∷◌, ◌++◌, length, map, filter, find, Option, None, Some, Result, Ok, IfOk, All, refl}
use Rattle.std.proofs.Common.{sym, subst, ap, ◌∙◌, cond, arith, inl, inr, append-nil}
use Rattle.std.specs.List.{Contains, AllByRecursion}
use Rattle.std.specs.Option.{option_map, ok_or}
use Rattle.std.proofs.lemmas.List.Elements.{All-head, All-tail}
use Rattle.std.proofs.lemmas.Bool.Decides.{nat_tests}
use Rattle.vault_state.specs.declared.place.Place.{Place}
use Rattle.vault_state.specs.declared.claims.Claim.{Claim}
use Rattle.vault_state.specs.declared.ids.ClaimId.{ClaimId}
use Rattle.vault_state.specs.declared.ids.ClaimId.TheVariants.{Long}
use Rattle.vault_state.specs.declared.session.Session.{Session}
use Rattle.vault_state.specs.Tree.{find_place, path_of, is_part}
use Rattle.vault_state.specs.Shelf.{Draft, versions_of}
use Rattle.vault_state.specs.Drafts.{SavedDraft, comes_before, drafts_of, content_at, IsOrdered}
use Rattle.vault_state.specs.Claims.{claim_of, is_held}
use Rattle.vault_state.specs.Vault.{Vault, IsDraft}
use Rattle.vault_state.proofs.Overlaps.{eq_from}
use Rattle.vault_state.proofs.Shelves.{versions_of-shelved_all}
use Rattle.vault_model.specs.declared.commands.Command.TheVariants as commands
use Rattle.vault_model.specs.declared.replies.Reply.TheVariants as replies
use Rattle.vault_model.specs.declared.replies.Refusal.{Refusal}
use Rattle.vault_model.specs.declared.replies.Refusal.TheVariants.{NoPlace, WrongKind, NoClaim, NotYours, NotHeld, NoVersion}
use Rattle.vault_model.specs.Changes.{with_versions}
use Rattle.vault_model.specs.Step.{Outcome, chained, refuse_if, ◌>>=◌, is_owned_by, owned, usable, check_in, drafts, draft}
use Rattle.vault_model.proofs.WaysBack.{path_leads_back}
use Rattle.question_laws.proofs.Lines.{follows, done_is}
use Rattle.question_laws.specs.Questions.{IsAnswered, GetsItsDraft, DraftsAreWhatCheckInMakes}

-- an element of a list that is mapped

map_contains : {X Y : Type 0} (f : X → Y) (xs : List X) (x : X) → Contains xs x → Contains (map f xs) (f x)
map_contains f [] x (k, inside, at) = absurd (omega (arith, inside))
map_contains f (y ∷ xs) x (zero, inside, at) = (zero, omega arith, ap f at)
map_contains f (y ∷ xs) x (suc k, inside, at) = let found = map_contains f xs x (k, omega (arith, inside), at) in
    (suc found.0, (let within = found.1 in omega (arith, within)), found.2)

mapped_contains : {X Y : Type 0} (f : X → Y) (xs : List X) (y : Y) → Contains (map f xs) y → (x : X) × Contains xs x × (f x ≡ y)
mapped_contains f [] y (k, inside, at) = absurd (omega (arith, inside))
mapped_contains f (x ∷ xs) y (zero, inside, at) = (x, (zero, omega arith, refl), at)
mapped_contains f (x ∷ xs) y (suc k, inside, at) = let found = mapped_contains f xs y (k, omega (arith, inside), at) in
    (found.0, (suc found.1.0, (let within = found.1.1 in omega (arith, within)), found.1.2), found.2)

pub found_in : {X : Type 0} (test : X → Bool) (xs : List X) (x : X) → find test xs ≡ Some x → Contains xs x × (test x ≡ true)
found_in test [] x e = cc
found_in {X} test (y ∷ xs) x e = by_test (test y) refl e (found_in test xs x)
  where
    by_test : (b : Bool) → test y ≡ b → cond b (Some y) (find test xs) ≡ Some x → (find test xs ≡ Some x → Contains xs x × (test x ≡ true)) → Contains (y ∷ xs) x × (test x ≡ true)
    by_test true k h rest = let same : y ≡ x = cc in ((zero, omega arith, same), subst (λ z. test z ≡ true) same k)
    by_test false k h rest = let found = rest h in ((suc found.0.0, (let within = found.0.1 in omega (arith, within)), found.0.2), found.1)

none_in : {X : Type 0} (test : X → Bool) (xs : List X) (x : X) → find test xs ≡ None → Contains xs x → test x ≡ false
none_in test [] x e (k, inside, at) = absurd (omega (arith, inside))
none_in test (y ∷ xs) x e at = by_test (test y) refl e at (none_in test xs x)
  where
    by_test : (b : Bool) → test y ≡ b → cond b (Some y) (find test xs) ≡ None → Contains (y ∷ xs) x → (find test xs ≡ None → Contains xs x → test x ≡ false) → test x ≡ false
    by_test true k h there rest = cc
    by_test false k h (zero, inside, is) rest = subst (λ z. test z ≡ false) is k
    by_test false k h (suc i, inside, is) rest = rest h (i, omega (arith, inside), is)

-- drafts by rising place
abbrev IsRising : List Draft → Type 0
IsRising [] = Unit {0}
IsRising (d ∷ ds) = AllByRecursion (λ (e : Draft). d.place < e.place) ds × IsRising ds

behind : (x : SavedDraft) (number : ℕ) (xs : List SavedDraft) → x.claim ≡ number → AllByRecursion (λ y. comes_before x y ≡ true) xs → AllByRecursion (λ (d : Draft). x.draft.place < d.place) (drafts_of xs number)
behind x number [] own before = tt
behind x number (y ∷ xs) own before = by_test (y.claim == number) refl (behind x number xs own before.1)
  where
    later : y.claim ≡ number → x.draft.place < y.draft.place
    later same = grind (arith, nat_tests, before.0, own, same)

    by_test : (b : Bool) → (y.claim == number) ≡ b → AllByRecursion (λ (d : Draft). x.draft.place < d.place) (drafts_of xs number)
        → AllByRecursion (λ (d : Draft). x.draft.place < d.place) (map (λ (z : SavedDraft). z.draft) (cond b (y ∷ filter (λ (z : SavedDraft). z.claim == number) xs) (filter (λ (z : SavedDraft). z.claim == number) xs)))
    by_test true e rest = (later (eq_from y.claim number e), rest)
    by_test false e rest = rest

rising : (xs : List SavedDraft) (number : ℕ) → IsOrdered xs → IsRising (drafts_of xs number)
unfolding IsOrdered
rising [] number ordered = tt
rising (x ∷ xs) number ordered = by_test (x.claim == number) refl (rising xs number ordered.1)
  where
    by_test : (b : Bool) → (x.claim == number) ≡ b → IsRising (drafts_of xs number)
        → IsRising (map (λ (z : SavedDraft). z.draft) (cond b (x ∷ filter (λ (z : SavedDraft). z.claim == number) xs) (filter (λ (z : SavedDraft). z.claim == number) xs)))
    by_test true e rest = (behind x number xs (eq_from x.claim number e) ordered.0, rest)
    by_test false e rest = rest

module _ (place : ℕ) where
  abbrev here : Draft → Bool
  here d = d.place == place

  none_later : (ds : List Draft) → AllByRecursion (λ (e : Draft). place < e.place) ds → filter here ds ≡ []
  none_later [] later = refl
  none_later (d ∷ ds) later =
      let other : (d.place == place) ≡ false = grind (arith, nat_tests, later.0) in
      ap (λ b. cond b (d ∷ filter here ds) (filter here ds)) other ∙ none_later ds later.1

  found_once : (ds : List Draft) (x : Draft) → IsRising ds → find here ds ≡ Some x → filter here ds ≡ x ∷ []
  found_once [] x up e = cc
  found_once (d ∷ ds) x up e = by_test (here d) refl e (found_once ds x up.1)
    where
      by_test : (b : Bool) → here d ≡ b → cond b (Some d) (find here ds) ≡ Some x → (find here ds ≡ Some x → filter here ds ≡ x ∷ []) → cond b (d ∷ filter here ds) (filter here ds) ≡ x ∷ []
      by_test true k h rest =
          let same : d ≡ x = cc in
          let at : d.place ≡ place = eq_from d.place place k in
          ap (λ tail. d ∷ tail) (none_later ds (subst (λ p. AllByRecursion (λ (e : Draft). p < e.place) ds) at up.0)) ∙ ap (λ z. z ∷ []) same
      by_test false k h rest = rest h

  found_never : (ds : List Draft) → find here ds ≡ None → filter here ds ≡ []
  found_never [] e = refl
  found_never (d ∷ ds) e = by_test (here d) e (found_never ds)
    where
      by_test : (b : Bool) → cond b (Some d) (find here ds) ≡ None → (find here ds ≡ None → filter here ds ≡ []) → cond b (d ∷ filter here ds) (filter here ds) ≡ []
      by_test true h rest = cc
      by_test false h rest = rest h

-- each draft is of a part that is there
abbrev IsThere : List Place → Draft → Type 0
IsThere tree d = (d.place ≤ length tree) × (is_part tree d.place ≡ true)

all_there : (tree : List Place) (line : List Claim) (number : ℕ) (xs : List SavedDraft) → All (IsDraft tree line) xs → (d : Draft) → Contains (drafts_of xs number) d → IsThere tree d
all_there tree line number [] all d (k, inside, at) = absurd (omega (arith, inside))
all_there tree line number (x ∷ xs) all d at = by_test (x.claim == number) at (all_there tree line number xs (All-tail (IsDraft tree line) x xs all) d)
  where
    own : IsThere tree x.draft
    own = let head = All-head (IsDraft tree line) x xs all in (head.there, head.part)

    by_test : (b : Bool) → Contains (map (λ (z : SavedDraft). z.draft) (cond b (x ∷ filter (λ (z : SavedDraft). z.claim == number) xs) (filter (λ (z : SavedDraft). z.claim == number) xs))) d
        → (Contains (drafts_of xs number) d → IsThere tree d) → IsThere tree d
    by_test true (zero, inside, is) rest = subst (IsThere tree) is own
    by_test true (suc k, inside, is) rest = rest (k, omega (arith, inside), is)
    by_test false there rest = rest there

-- whoever may check in may ask for the drafts
used_owned : (v : Vault) (session : Session) (id : ClaimId) (claim : Claim) → usable v session id ≡ Ok claim → owned v session id ≡ Ok claim
unfolding usable owned chained
used_owned v session id claim e = by_claim (claim_of v.line id) e
  where
    by_claim : (o : Option Claim) → (ok_or o NoClaim >>= λ c. refuse_if (not (is_owned_by session c.owner)) NotYours >>= λ _. refuse_if (not (is_held v.tree v.line c)) NotHeld >>= λ _. Ok c) ≡ Ok claim
        → (ok_or o NoClaim >>= λ c. refuse_if (not (is_owned_by session c.owner)) NotYours >>= λ _. Ok c) ≡ Ok claim
    by_claim None h = cc
    by_claim (Some c) h = by_tests (is_owned_by session c.owner) (is_held v.tree v.line c) h
      where
        by_tests : (a b : Bool) → (refuse_if (not a) NotYours >>= λ _. refuse_if (not b) NotHeld >>= λ _. Ok c) ≡ Ok claim → (refuse_if (not a) NotYours >>= λ _. Ok c) ≡ Ok claim
        by_tests true true k = k
        by_tests true false k = cc
        by_tests false b k = cc

abbrev IsCheckIn : Vault → Session → ℕ → Outcome → Type 0
IsCheckIn v session number done = (claim : Claim) × (usable v session (Long number) ≡ Ok claim) × (done.vault ≡ with_versions v number)

check_in_is : (v : Vault) (session : Session) (number : ℕ) → IfOk (check_in v session number) (IsCheckIn v session number)
unfolding check_in
check_in_is v session number = let P = IsCheckIn v session number in
    follows P _ _ (λ claim used. follows P _ _ (λ _ _. (claim, used, refl)))

listed : (v : Vault) (session : Session) (number : ℕ) (claim : Claim) → owned v session (Long number) ≡ Ok claim
    → IsAnswered v session (commands.Drafts number) (replies.DraftsOf (map (λ (x : Draft). path_of v.tree x.place) (drafts_of v.drafts number)))
unfolding drafts chained
listed v session number claim own =
    ap (λ r. r >>= λ _. Ok (record { reply = replies.DraftsOf (map (λ (x : Draft). path_of v.tree x.place) (drafts_of v.drafts number)); vault = v; effect = None })) own

read : (v : Vault) (session : Session) (number : ℕ) (claim : Claim) (path : List (List ℕ)) (place : ℕ) (content : List ℕ) → owned v session (Long number) ≡ Ok claim → find_place v.tree path ≡ Some place → is_part v.tree place ≡ true
    → content_at (drafts_of v.drafts number) place ≡ Some content → IsAnswered v session (commands.Draft number path) (replies.Content content)
unfolding draft chained
read v session number claim path place content own found part holds =
    ap (λ r. r >>= λ _. ok_or (find_place v.tree path) NoPlace >>= λ p. refuse_if (not (is_part v.tree p)) WrongKind >>= λ _. ok_or (content_at (drafts_of v.drafts number) p) NoVersion >>= λ c. answer c) own
    ∙ ap (λ o. ok_or o NoPlace >>= λ p. refuse_if (not (is_part v.tree p)) WrongKind >>= λ _. ok_or (content_at (drafts_of v.drafts number) p) NoVersion >>= λ c. answer c) found
    ∙ ap (λ b. refuse_if (not b) WrongKind >>= λ _. ok_or (content_at (drafts_of v.drafts number) place) NoVersion >>= λ c. answer c) part
    ∙ ap (λ o. ok_or o NoVersion >>= λ c. answer c) holds
  where
    answer : List ℕ → Result Outcome Refusal
    answer c = Ok (record { reply = replies.Content c; vault = v; effect = None })

pub drafts_are_made : DraftsAreWhatCheckInMakes
drafts_are_made v session number done kept e =
    by_claim (done_is (IsCheckIn v session number) (check_in v session number) done (check_in_is v session number) e)
  where
    ds : List Draft
    ds = drafts_of v.drafts number

    paths : List (List (List ℕ))
    paths = map (λ (x : Draft). path_of v.tree x.place) ds

    Either : Vault → ℕ → Type 0
    Either new place = (Contains paths (path_of v.tree place) × GetsItsDraft v session number place new)
        ⊎ ((Contains paths (path_of v.tree place) → ⊥) × (versions_of new.shelf place ≡ versions_of v.shelf place))

    made : (place : ℕ) → versions_of (with_versions v number).shelf place ≡ versions_of v.shelf place ++ map (λ (d : Draft). d.content) (filter (here place) ds)
    made place = versions_of-shelved_all v.shelf ds place

    by_draft : (claim : Claim) → owned v session (Long number) ≡ Ok claim → (place : ℕ) → place ≤ length v.tree → (o : Option Draft) → find (here place) ds ≡ o → Either (with_versions v number) place
    by_draft claim own place within (Some x) found =
        let at = found_in (here place) ds x found in
        let same : x.place ≡ place = eq_from x.place place at.1 in
        let there = all_there v.tree v.line number v.drafts kept.drafts.each x at.0 in
        inl (
          subst (λ p. Contains paths (path_of v.tree p)) same (map_contains (λ (d : Draft). path_of v.tree d.place) ds x at.0),
          (
            x.content,
            read v session number claim (path_of v.tree place) place x.content own (path_leads_back v.tree place kept.tree within) (subst (λ p. is_part v.tree p ≡ true) same there.1)
                (ap (option_map (λ (d : Draft). d.content)) found),
            made place ∙ ap (λ l. versions_of v.shelf place ++ map (λ (d : Draft). d.content) l) (found_once place ds x (rising v.drafts number kept.drafts.ordered) found),
          ),
        )
    by_draft claim own place within None found = inr (never, made place ∙ ap (λ l. versions_of v.shelf place ++ map (λ (d : Draft). d.content) l) (found_never place ds found) ∙ append-nil (versions_of v.shelf place))
      where
        never : Contains paths (path_of v.tree place) → ⊥
        never at =
            let x = mapped_contains (λ (d : Draft). path_of v.tree d.place) ds (path_of v.tree place) at in
            let there = all_there v.tree v.line number v.drafts kept.drafts.each x.0 x.1 in
            let one : find_place v.tree (path_of v.tree x.0.place) ≡ Some x.0.place = path_leads_back v.tree x.0.place kept.tree there.0 in
            let two : find_place v.tree (path_of v.tree place) ≡ Some place = path_leads_back v.tree place kept.tree within in
            let both : Some x.0.place ≡ Some place = sym one ∙ ap (find_place v.tree) x.2 ∙ two in
            let same : x.0.place ≡ place = cc in
            let not_here : (x.0.place == place) ≡ false = none_in (here place) ds x.0 found x.1 in
            let yes : (x.0.place == place) ≡ true = grind (arith, nat_tests, same) in
            cc

    by_claim : IsCheckIn v session number done
        → (paths : List (List (List ℕ))) × IsAnswered v session (commands.Drafts number) (replies.DraftsOf paths)
        × ((place : ℕ) → place ≤ length v.tree
        → (Contains paths (path_of v.tree place) × GetsItsDraft v session number place done.vault)
        ⊎ ((Contains paths (path_of v.tree place) → ⊥) × (versions_of done.vault.shelf place ≡ versions_of v.shelf place)))
    by_claim (claim, used, is) =
        let own = used_owned v session (Long number) claim used in
        (paths, listed v session number claim own, λ place within. subst (λ new. Either new place) (sym is) (by_draft claim own place within (find (here place) ds) refl))
