-- The invariant of a vault's drafts is kept by each change of the tree, the queue of claims and the drafts themselves.
use Rattle.std.specs.Prelude.{◌≡◌, ℕ, ◌+◌, ◌<◌, ◌≤◌, ◌==◌, ◌&&◌, nat_lt, Bool, true, false, not, List, [], ◌∷◌, ◌++◌, length, filter, Option, None, Some, is_some, All, ◌⊎◌, refl}
use Rattle.std.proofs.Common.{sym, subst, ap, ◌∙◌, cond, arith, length-append, inl, inr}
use Rattle.std.specs.List.{IsDistinct, AllByRecursion}
use Rattle.std.specs.Option.{option_map_or}
use Rattle.std.proofs.lemmas.Bool.Decides.{nat_tests}
use Rattle.std.proofs.lemmas.List.{length-map}
use Rattle.std.proofs.lemmas.List.Elements.{All-nil, All-cons, All-head, All-tail, All-filter, All-append, filter-append}
use Rattle.vault_state.specs.declared.place.Place.{Place}
use Rattle.vault_state.specs.declared.claims.Item.{Item}
use Rattle.vault_state.specs.declared.claims.Claim.{Claim}
use Rattle.vault_state.specs.declared.claims.Standing.TheVariants.{Held}
use Rattle.vault_state.specs.declared.ids.ClaimId.{ClaimId}
use Rattle.vault_state.specs.declared.ids.ClaimId.TheVariants.{Long}
use Rattle.vault_state.specs.Limits.{most_drafts}
use Rattle.vault_state.specs.Tree.{is_under}
use Rattle.vault_state.specs.Claims.{same_id, is_change, claim_of, change_set, standing_of, without, is_held, in_way_of, put_first}
use Rattle.vault_state.specs.Drafts.{SavedDraft, comes_before, with_draft, drafts_of, IsOrdered}
use Rattle.vault_state.specs.Vault.{AreThere, IsDraft, AreDrafts}
use Rattle.vault_state.proofs.Overlaps.{eq_from, or_cases, or_left, or_right, and_both, and_intro}
use Rattle.vault_state.proofs.Walks.{Rises}
use Rattle.vault_state.proofs.Growth.{is_under-push, is_part-push}
use Rattle.vault_model.proofs.Fronts.{held_front, held_claim, stands_held}
use Rattle.vault_model.specs.After.{drafts_held}
use Rattle.vault_state.proofs.Grown.{standing_of-grown}
use Rattle.vault_state.proofs.Stays.{ids, own_id, same_id_is, claim_of-push, standing_of-push, claim_of-kept, held_kept, held_there}
use Rattle.vault_state.proofs.Lists.{filter_passes}

-- what a change of the queue keeps for the claims with drafts
pub record Keeps (tree : List Place) (line others : List Claim) (number : ℕ) : Type 0 where
  pub held : standing_of tree others (Long number) ≡ Some Held
  pub wider : (c : Claim) → claim_of others (Long number) ≡ Some c → (d : Claim) × (claim_of line (Long number) ≡ Some d) × ((p : ℕ) → change_set tree d.items p ≡ true → change_set tree c.items p ≡ true)

pub drafts_moved : (tree : List Place) (line others : List Claim) (drafts : List SavedDraft) → ((number : ℕ) → standing_of tree line (Long number) ≡ Some Held → Keeps tree line others number) → AreDrafts tree line drafts → AreDrafts tree others drafts
drafts_moved tree line others drafts moves are = record { each = each drafts are.each; few = are.few; ordered = are.ordered }
  where
    one : (x : SavedDraft) → IsDraft tree line x → IsDraft tree others x
    one x h =
        let k = moves x.claim h.held in
        record {
          held = k.held;
          changed = λ c found. let w = k.wider c found in w.2 x.draft.place (h.changed w.0 w.1);
          there = h.there;
          part = h.part;
          short = h.short;
        }

    each : (xs : List SavedDraft) → All (IsDraft tree line) xs → All (IsDraft tree others) xs
    each [] all = All-nil (IsDraft tree others)
    each (x ∷ xs) all = All-cons (IsDraft tree others) x xs (one x (All-head (IsDraft tree line) x xs all)) (each xs (All-tail (IsDraft tree line) x xs all))

-- one claim more
pub drafts_asked : (tree : List Place) (line : List Claim) (c : Claim) (drafts : List SavedDraft) → AreDrafts tree line drafts → AreDrafts tree (line ++ c ∷ []) drafts
drafts_asked tree line c drafts are = drafts_moved tree line (line ++ c ∷ []) drafts moves are
  where
    moves : (number : ℕ) → standing_of tree line (Long number) ≡ Some Held → Keeps tree line (line ++ c ∷ []) number
    moves number held =
        let there = held_there tree line (Long number) held in
        record {
          held = standing_of-push tree line c (Long number) there ∙ held;
          wider = λ d found. (d, sym (claim_of-push line c (Long number) there) ∙ found, λ p h. h);
        }

-- some claims left alone, those with drafts among them
pub drafts_left : (tree : List Place) (line : List Claim) (keep : Claim → Bool) (drafts : List SavedDraft) → IsDistinct same_id (ids line) → All (λ (x : SavedDraft). is_some (claim_of (filter keep line) (Long x.claim)) ≡ true) drafts
    → AreDrafts tree line drafts → AreDrafts tree (filter keep line) drafts
drafts_left tree line keep drafts distinct left are = record { each = each drafts are.each left; few = are.few; ordered = are.ordered }
  where
    one : (x : SavedDraft) → is_some (claim_of (filter keep line) (Long x.claim)) ≡ true → IsDraft tree line x → IsDraft tree (filter keep line) x
    one x there h = record {
      held = held_kept keep tree line (Long x.claim) distinct there h.held;
      changed = λ c found. h.changed c (sym (claim_of-kept keep line (Long x.claim) distinct there) ∙ found);
      there = h.there;
      part = h.part;
      short = h.short;
    }

    each : (xs : List SavedDraft) → All (IsDraft tree line) xs → All (λ (x : SavedDraft). is_some (claim_of (filter keep line) (Long x.claim)) ≡ true) xs → All (IsDraft tree (filter keep line)) xs
    each [] all some = All-nil (IsDraft tree (filter keep line))
    each (x ∷ xs) all some =
        All-cons (IsDraft tree (filter keep line)) x xs (one x (All-head (λ (x : SavedDraft). is_some (claim_of (filter keep line) (Long x.claim)) ≡ true) x xs some) (All-head (IsDraft tree line) x xs all))
        (each xs (All-tail (IsDraft tree line) x xs all) (All-tail (λ (x : SavedDraft). is_some (claim_of (filter keep line) (Long x.claim)) ≡ true) x xs some))

-- fewer drafts
ordered_filter : (keep : SavedDraft → Bool) (drafts : List SavedDraft) → IsOrdered drafts → IsOrdered (filter keep drafts)
unfolding IsOrdered
ordered_filter keep [] ordered = tt
ordered_filter keep (x ∷ xs) ordered = by_test (keep x) (ordered_filter keep xs ordered.1)
  where
    all : (ys : List SavedDraft) → AllByRecursion (λ y. comes_before x y ≡ true) ys → AllByRecursion (λ y. comes_before x y ≡ true) (filter keep ys)
    all [] h = tt
    all (y ∷ ys) h = by_keep (keep y) (all ys h.1)
      where
        by_keep : (b : Bool) → AllByRecursion (λ z. comes_before x z ≡ true) (filter keep ys) → AllByRecursion (λ z. comes_before x z ≡ true) (cond b (y ∷ filter keep ys) (filter keep ys))
        by_keep true rest = (h.0, rest)
        by_keep false rest = rest

    by_test : (b : Bool) → IsOrdered (filter keep xs) → IsOrdered (cond b (x ∷ filter keep xs) (filter keep xs))
    by_test true rest = (all xs ordered.0, rest)
    by_test false rest = rest

shorter_of : (p q : SavedDraft → Bool) (xs : List SavedDraft) → length (filter p (filter q xs)) ≤ length (filter p xs)
shorter_of p q [] = omega arith
shorter_of p q (x ∷ xs) = by_tests (q x) (p x) refl (shorter_of p q xs)
  where
    by_tests : (a b : Bool) → p x ≡ b → length (filter p (filter q xs)) ≤ length (filter p xs) → length (filter p (cond a (x ∷ filter q xs) (filter q xs))) ≤ length (cond b (x ∷ filter p xs) (filter p xs))
    by_tests true true e h = rw e (omega arith)
    by_tests true false e h = rw e h
    by_tests false true e h = omega arith
    by_tests false false e h = h

pub fewer_drafts : (tree : List Place) (line : List Claim) (keep : SavedDraft → Bool) (drafts : List SavedDraft) → AreDrafts tree line drafts → AreDrafts tree line (filter keep drafts)
fewer_drafts tree line keep drafts are = record {
  each = All-filter keep (IsDraft tree line) drafts are.each;
  few = λ number. few number;
  ordered = ordered_filter keep drafts are.ordered;
}
  where
    few : (number : ℕ) → length (drafts_of (filter keep drafts) number) ≤ most_drafts
    few number =
        let same : length (drafts_of (filter keep drafts) number) ≡ length (filter (λ (x : SavedDraft). x.claim == number) (filter keep drafts)) = length-map _ _ in
        let all : length (drafts_of drafts number) ≡ length (filter (λ (x : SavedDraft). x.claim == number) drafts) = length-map _ _ in
        let less = shorter_of (λ (x : SavedDraft). x.claim == number) keep drafts in
        let bound = are.few number in
        omega arith

-- a larger tree
module _ (tree : List Place) (x : Place) (rises : Rises tree) (parent : x.parent ≤ length tree) where
  changed_grown : (items : List Item) (p : ℕ) → p ≤ length tree → change_set (tree ++ x ∷ []) items p ≡ change_set tree items p
  changed_grown [] p there = refl
  changed_grown (item ∷ items) p there = rw (is_under-push tree x p item.place rises there, changed_grown items p there) refl

  pub drafts_grown : (line : List Claim) → All (λ (c : Claim). AreThere tree c.items) line → (drafts : List SavedDraft) → AreDrafts tree line drafts → AreDrafts (tree ++ x ∷ []) line drafts
  drafts_grown line there drafts are = record { each = each drafts are.each; few = are.few; ordered = are.ordered }
    where
      one : (d : SavedDraft) → IsDraft tree line d → IsDraft (tree ++ x ∷ []) line d
      one d h = record {
        held = standing_of-grown tree x rises parent line (Long d.claim) there ∙ h.held;
        changed = λ c found. changed_grown c.items d.draft.place h.there ∙ h.changed c found;
        there = let longer = length-append tree (x ∷ []) in let within = h.there in omega arith;
        part = is_part-push tree x d.draft.place h.there ∙ h.part;
        short = h.short;
      }

      each : (xs : List SavedDraft) → All (IsDraft tree line) xs → All (IsDraft (tree ++ x ∷ []) line) xs
      each [] all = All-nil (IsDraft (tree ++ x ∷ []) line)
      each (d ∷ xs) all = All-cons (IsDraft (tree ++ x ∷ []) line) d xs (one d (All-head (IsDraft tree line) d xs all)) (each xs (All-tail (IsDraft tree line) d xs all))

-- more items change no less
wider_items : (tree : List Place) (xs ys : List Item) (p : ℕ) → change_set tree xs p ≡ true → change_set tree (xs ++ ys) p ≡ true
wider_items tree [] ys p e = cc
wider_items tree (i ∷ xs) ys p e = by_case (wider_items tree xs ys p) (or_cases (is_change i.intent && is_under tree p i.place) (change_set tree xs p) e)
  where
    by_case : (change_set tree xs p ≡ true → change_set tree (xs ++ ys) p ≡ true) → ((is_change i.intent && is_under tree p i.place) ≡ true) ⊎ (change_set tree xs p ≡ true) → change_set tree ((i ∷ xs) ++ ys) p ≡ true
    by_case ih (inl h) = or_left (is_change i.intent && is_under tree p i.place) (change_set tree (xs ++ ys) p) h
    by_case ih (inr h) = or_right (is_change i.intent && is_under tree p i.place) (change_set tree (xs ++ ys) p) (ih h)

-- a claim with more items, put first
pub drafts_first : (tree : List Place) (line : List Claim) (id : ClaimId) (claim : Claim) (more : List Item) (drafts : List SavedDraft) → IsDistinct same_id (ids line) → claim_of line id ≡ Some claim
    → in_way_of tree line id (claim.items ++ more) ≡ None → AreDrafts tree line drafts → AreDrafts tree (put_first line id (claim.items ++ more)) drafts
drafts_first tree line id claim more drafts distinct found free are = drafts_moved tree line (put_first line id (claim.items ++ more)) drafts moves are
  where
    first_is : put_first line id (claim.items ++ more) ≡ record claim { items = claim.items ++ more } ∷ without line id
    first_is = rw found refl

    wider : (number : ℕ) → standing_of tree line (Long number) ≡ Some Held → (b : Bool) → same_id claim.id (Long number) ≡ b → (c : Claim) → claim_of (record claim { items = claim.items ++ more } ∷ without line id) (Long number) ≡ Some c
        → (d : Claim) × (claim_of line (Long number) ≡ Some d) × ((p : ℕ) → change_set tree d.items p ≡ true → change_set tree c.items p ≡ true)
    wider number held true e c there =
        let here : claim_of (record claim { items = claim.items ++ more } ∷ without line id) (Long number) ≡ Some (record claim { items = claim.items ++ more }) = rw e refl in
        let same : record claim { items = claim.items ++ more } ≡ c = cc in
        let own : claim.id ≡ id = own_id line id claim found in
        let other : claim.id ≡ Long number = same_id_is claim.id (Long number) e in
        let same_line : claim_of line (Long number) ≡ Some claim = subst (λ k. claim_of line k ≡ Some claim) (sym own ∙ other) found in
        (claim, same_line, λ p h. subst (λ (x : Claim). change_set tree x.items p ≡ true) same (wider_items tree claim.items more p h))
    wider number held false e c there =
        let left : claim_of (without line id) (Long number) ≡ Some c = rw e at there in
        let some : is_some (claim_of (filter (λ (x : Claim). not (same_id x.id id)) line) (Long number)) ≡ true = rw left refl in
        (c, sym (claim_of-kept (λ (x : Claim). not (same_id x.id id)) line (Long number) distinct some) ∙ left, λ p h. h)

    moves : (number : ℕ) → standing_of tree line (Long number) ≡ Some Held → Keeps tree line (put_first line id (claim.items ++ more)) number
    moves number held = record {
      held = held_front tree line id (claim.items ++ more) distinct (rw found refl) free (Long number) held;
      wider = λ c there. wider number held (same_id claim.id (Long number)) refl c (rw first_is at there);
    }

-- the same, where the drafts' check-outs are held then
pub drafts_put_first : (tree : List Place) (line : List Claim) (id : ClaimId) (claim : Claim) (more : List Item) (drafts : List SavedDraft) → IsDistinct same_id (ids line) → claim_of line id ≡ Some claim
    → drafts_held tree (put_first line id (claim.items ++ more)) drafts ≡ true → AreDrafts tree line drafts → AreDrafts tree (put_first line id (claim.items ++ more)) drafts
drafts_put_first tree line id claim more drafts distinct found held are = record { each = each drafts held are.each; few = are.few; ordered = are.ordered }
  where
    first_is : put_first line id (claim.items ++ more) ≡ record claim { items = claim.items ++ more } ∷ without line id
    first_is = rw found refl

    wider : (number : ℕ) → (b : Bool) → same_id claim.id (Long number) ≡ b → (c : Claim) → claim_of (record claim { items = claim.items ++ more } ∷ without line id) (Long number) ≡ Some c
        → (d : Claim) × (claim_of line (Long number) ≡ Some d) × ((p : ℕ) → change_set tree d.items p ≡ true → change_set tree c.items p ≡ true)
    wider number true e c there =
        let here : claim_of (record claim { items = claim.items ++ more } ∷ without line id) (Long number) ≡ Some (record claim { items = claim.items ++ more }) = rw e refl in
        let same : record claim { items = claim.items ++ more } ≡ c = cc in
        let own : claim.id ≡ id = own_id line id claim found in
        let other : claim.id ≡ Long number = same_id_is claim.id (Long number) e in
        let same_line : claim_of line (Long number) ≡ Some claim = subst (λ k. claim_of line k ≡ Some claim) (sym own ∙ other) found in
        (claim, same_line, λ p h. subst (λ (x : Claim). change_set tree x.items p ≡ true) same (wider_items tree claim.items more p h))
    wider number false e c there =
        let left : claim_of (without line id) (Long number) ≡ Some c = rw e at there in
        let some : is_some (claim_of (filter (λ (x : Claim). not (same_id x.id id)) line) (Long number)) ≡ true = rw left refl in
        (c, sym (claim_of-kept (λ (x : Claim). not (same_id x.id id)) line (Long number) distinct some) ∙ left, λ p h. h)

    held_by : (number : ℕ) (o : Option Claim) → claim_of (put_first line id (claim.items ++ more)) (Long number) ≡ o → option_map_or (λ c. is_held tree (put_first line id (claim.items ++ more)) c) o false ≡ true
        → standing_of tree (put_first line id (claim.items ++ more)) (Long number) ≡ Some Held
    held_by number None at e = cc
    held_by number (Some c) at e = stands_held tree (put_first line id (claim.items ++ more)) (Long number) c at e

    one : (x : SavedDraft) → option_map_or (λ c. is_held tree (put_first line id (claim.items ++ more)) c) (claim_of (put_first line id (claim.items ++ more)) (Long x.claim)) false ≡ true → IsDraft tree line x → IsDraft tree (put_first line id (claim.items ++ more)) x
    one x e h = record {
      held = held_by x.claim (claim_of (put_first line id (claim.items ++ more)) (Long x.claim)) refl e;
      changed = λ c found_at. let w = wider x.claim (same_id claim.id (Long x.claim)) refl c (rw first_is at found_at) in w.2 x.draft.place (h.changed w.0 w.1);
      there = h.there;
      part = h.part;
      short = h.short;
    }

    each : (xs : List SavedDraft) → drafts_held tree (put_first line id (claim.items ++ more)) xs ≡ true → All (IsDraft tree line) xs → All (IsDraft tree (put_first line id (claim.items ++ more))) xs
    each [] e all = All-nil (IsDraft tree (put_first line id (claim.items ++ more)))
    each (x ∷ xs) e all =
        let both = and_both (option_map_or (λ c. is_held tree (put_first line id (claim.items ++ more)) c) (claim_of (put_first line id (claim.items ++ more)) (Long x.claim)) false) (drafts_held tree (put_first line id (claim.items ++ more)) xs) e in
        All-cons (IsDraft tree (put_first line id (claim.items ++ more))) x xs (one x both.0 (All-head (IsDraft tree line) x xs all)) (each xs both.1 (All-tail (IsDraft tree line) x xs all))

-- drafts with their invariant have granted check-outs
pub all_held : (tree : List Place) (line : List Claim) (drafts : List SavedDraft) → All (IsDraft tree line) drafts → drafts_held tree line drafts ≡ true
all_held tree line [] all = refl
all_held tree line (x ∷ xs) all =
    let h = All-head (IsDraft tree line) x xs all in
    and_intro (option_map_or (λ c. is_held tree line c) (claim_of line (Long x.claim)) false) (drafts_held tree line xs) (by_claim (claim_of line (Long x.claim)) refl (held_there tree line (Long x.claim) h.held) h.held) (all_held tree line xs (All-tail (IsDraft tree line) x xs all))
  where
    by_claim : (o : Option Claim) → claim_of line (Long x.claim) ≡ o → is_some o ≡ true → standing_of tree line (Long x.claim) ≡ Some Held → option_map_or (λ c. is_held tree line c) o false ≡ true
    by_claim None at e held = cc
    by_claim (Some c) at e held = held_claim tree line (Long x.claim) c at held

-- tests that exclude each other pass no more than all
both_fewer : (p a b : SavedDraft → Bool) (xs : List SavedDraft) → ((x : SavedDraft) → a x ≡ true → b x ≡ false) → length (filter p (filter a xs)) + length (filter p (filter b xs)) ≤ length (filter p xs)
both_fewer p a b [] apart = omega arith
both_fewer p a b (x ∷ xs) apart = by_tests (a x) refl (b x) refl (p x) refl (both_fewer p a b xs apart)
  where
    by_tests : (u : Bool) → a x ≡ u → (w : Bool) → b x ≡ w → (t : Bool) → p x ≡ t → length (filter p (filter a xs)) + length (filter p (filter b xs)) ≤ length (filter p xs)
        → length (filter p (cond u (x ∷ filter a xs) (filter a xs))) + length (filter p (cond w (x ∷ filter b xs) (filter b xs))) ≤ length (cond t (x ∷ filter p xs) (filter p xs))
    by_tests true e true g t k h = let clash : true ≡ false = sym g ∙ apart x e in cc
    by_tests true e false g true k h = rw k (omega arith)
    by_tests true e false g false k h = rw k h
    by_tests false e true g true k h = rw k (omega arith)
    by_tests false e true g false k h = rw k h
    by_tests false e false g true k h = omega arith
    by_tests false e false g false k h = h

before_cases : (x y : SavedDraft) → comes_before x y ≡ true → (x.claim < y.claim) ⊎ ((x.claim ≡ y.claim) × (x.draft.place < y.draft.place))
before_cases x y e = by_case (or_cases (nat_lt x.claim y.claim) ((x.claim == y.claim) && nat_lt x.draft.place y.draft.place) e)
  where
    by_case : (nat_lt x.claim y.claim ≡ true) ⊎ (((x.claim == y.claim) && nat_lt x.draft.place y.draft.place) ≡ true) → (x.claim < y.claim) ⊎ ((x.claim ≡ y.claim) × (x.draft.place < y.draft.place))
    by_case (inl h) = inl (grind (arith, nat_tests, h))
    by_case (inr h) = let both = and_both (x.claim == y.claim) (nat_lt x.draft.place y.draft.place) h in inr (eq_from x.claim y.claim both.0, grind (arith, nat_tests, both.1))

before_from : (x y : SavedDraft) → (x.claim < y.claim) ⊎ ((x.claim ≡ y.claim) × (x.draft.place < y.draft.place)) → comes_before x y ≡ true
before_from x y (inl h) = let less : nat_lt x.claim y.claim ≡ true = grind (arith, nat_tests, h) in rw less refl
before_from x y (inr h) =
    let same : (x.claim == y.claim) ≡ true = let e = h.0 in grind (arith, nat_tests, e) in
    let less : nat_lt x.draft.place y.draft.place ≡ true = let l = h.1 in grind (arith, nat_tests, l) in
    or_right (nat_lt x.claim y.claim) ((x.claim == y.claim) && nat_lt x.draft.place y.draft.place) (and_intro (x.claim == y.claim) (nat_lt x.draft.place y.draft.place) same less)

before_trans : (x y z : SavedDraft) → comes_before x y ≡ true → comes_before y z ≡ true → comes_before x z ≡ true
before_trans x y z e f = before_from x z (by_cases (before_cases x y e) (before_cases y z f))
  where
    by_cases : (x.claim < y.claim) ⊎ ((x.claim ≡ y.claim) × (x.draft.place < y.draft.place)) → (y.claim < z.claim) ⊎ ((y.claim ≡ z.claim) × (y.draft.place < z.draft.place)) → (x.claim < z.claim) ⊎ ((x.claim ≡ z.claim) × (x.draft.place < z.draft.place))
    by_cases (inl h) (inl k) = inl (omega arith)
    by_cases (inl h) (inr k) = let e = k.0 in inl (omega arith)
    by_cases (inr h) (inl k) = let e = h.0 in inl (omega arith)
    by_cases (inr h) (inr k) = let e = h.0 in let f = k.0 in let l = h.1 in let m = k.1 in inr (omega arith, omega arith)

pub not_both : (x y : SavedDraft) → comes_before x y ≡ true → comes_before y x ≡ false
not_both x y e = by_test (comes_before y x) refl
  where
    clash : (x.claim < y.claim) ⊎ ((x.claim ≡ y.claim) × (x.draft.place < y.draft.place)) → (y.claim < x.claim) ⊎ ((y.claim ≡ x.claim) × (y.draft.place < x.draft.place)) → ⊥
    clash (inl h) (inl k) = omega arith
    clash (inl h) (inr k) = let e = k.0 in omega arith
    clash (inr h) (inl k) = let e = h.0 in omega arith
    clash (inr h) (inr k) = let l = h.1 in let m = k.1 in omega arith

    by_test : (b : Bool) → comes_before y x ≡ b → comes_before y x ≡ false
    by_test true g = absurd (clash (before_cases x y e) (before_cases y x g))
    by_test false g = g

-- the drafts before a new one, it, and those behind it, stand in order
ordered_saved : (new : SavedDraft) (xs ys : List SavedDraft) → IsOrdered xs → AllByRecursion (λ x. comes_before x new ≡ true) xs → IsOrdered ys → AllByRecursion (λ y. comes_before new y ≡ true) ys → IsOrdered (xs ++ new ∷ ys)
unfolding IsOrdered
ordered_saved new [] ys first low rest high = (high, rest)
ordered_saved new (x ∷ xs) ys first low rest high = (ahead xs first.0, ordered_saved new xs ys first.1 low.1 rest high)
  where
    behind : (zs : List SavedDraft) → AllByRecursion (λ y. comes_before new y ≡ true) zs → AllByRecursion (λ y. comes_before x y ≡ true) zs
    behind [] h = tt
    behind (z ∷ zs) h = (before_trans x new z low.0 h.0, behind zs h.1)

    ahead : (zs : List SavedDraft) → AllByRecursion (λ y. comes_before x y ≡ true) zs → AllByRecursion (λ y. comes_before x y ≡ true) (zs ++ new ∷ ys)
    ahead [] h = (low.0, behind ys high)
    ahead (z ∷ zs) h = (h.0, ahead zs h.1)

-- one draft more, or in place of another
pub drafts_saved : (tree : List Place) (line : List Claim) (drafts : List SavedDraft) (new : SavedDraft) → AreDrafts tree line drafts → IsDraft tree line new → length (drafts_of (with_draft drafts new) new.claim) ≤ most_drafts → AreDrafts tree line (with_draft drafts new)
drafts_saved tree line drafts new are fits room = record {
  each = All-append (IsDraft tree line) (filter (λ x. comes_before x new) drafts) (new ∷ filter (λ x. comes_before new x) drafts) (All-filter (λ x. comes_before x new) (IsDraft tree line) drafts are.each) (All-cons (IsDraft tree line) new (filter (λ x. comes_before new x) drafts) fits (All-filter (λ x. comes_before new x) (IsDraft tree line) drafts are.each));
  few = λ number. few number (new.claim == number) refl;
  ordered = ordered_saved new (filter (λ x. comes_before x new) drafts) (filter (λ x. comes_before new x) drafts) (ordered_filter (λ x. comes_before x new) drafts are.ordered) (filter_passes (λ x. comes_before x new) drafts) (ordered_filter (λ x. comes_before new x) drafts are.ordered) (filter_passes (λ x. comes_before new x) drafts);
}
  where
    few : (number : ℕ) (b : Bool) → (new.claim == number) ≡ b → length (drafts_of (with_draft drafts new) number) ≤ most_drafts
    few number true e = subst (λ k. length (drafts_of (with_draft drafts new) k) ≤ most_drafts) (eq_from new.claim number e) room
    few number false e =
        let mine : length (drafts_of (with_draft drafts new) number) ≡ length (filter (λ (x : SavedDraft). x.claim == number) (with_draft drafts new)) = length-map _ _ in
        let all : length (drafts_of drafts number) ≡ length (filter (λ (x : SavedDraft). x.claim == number) drafts) = length-map _ _ in
        let parts : filter (λ (x : SavedDraft). x.claim == number) (with_draft drafts new) ≡ filter (λ (x : SavedDraft). x.claim == number) (filter (λ x. comes_before x new) drafts) ++ filter (λ (x : SavedDraft). x.claim == number) (filter (λ x. comes_before new x) drafts) =
        filter-append (λ (x : SavedDraft). x.claim == number) (filter (λ x. comes_before x new) drafts) (new ∷ filter (λ x. comes_before new x) drafts) ∙ rw e refl in
        let sum = length-append (filter (λ (x : SavedDraft). x.claim == number) (filter (λ x. comes_before x new) drafts)) (filter (λ (x : SavedDraft). x.claim == number) (filter (λ x. comes_before new x) drafts)) in
        let less = both_fewer (λ (x : SavedDraft). x.claim == number) (λ x. comes_before x new) (λ x. comes_before new x) drafts (λ x h. not_both x new h) in
        let long = ap length parts in
        let bound = are.few number in
        omega arith
