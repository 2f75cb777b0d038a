-- Each change keeps the invariant of a vault.
use Rattle.std.specs.Prelude.{◌≡◌, ◌≢◌, ℕ, suc, Option, None, Some, is_some, ◌+◌, ◌<◌, ◌≤◌, ◌==◌, Bool, true, false, not, nat_eq, List, [], ◌∷◌, ◌++◌, length, map, filter, All, refl}
use Rattle.std.proofs.Common.{arith, ap, sym, subst, cond, length-append, ◌∙◌}
use Rattle.std.proofs.lemmas.List.{length-map}
use Rattle.std.proofs.lemmas.List.Elements.{All-nil, All-cons, All-head, All-tail, All-weaker, All-filter, All-push, All-map}
use Rattle.std.proofs.lemmas.List.Sums.{length-filter, count_by-le-length}
use Rattle.std.proofs.lemmas.Bool.Decides.{nat_tests}
use Rattle.vault_state.specs.declared.place.Place.{Place}
use Rattle.vault_state.specs.declared.ids.ClaimId.{ClaimId}
use Rattle.vault_state.specs.declared.ids.ClaimId.TheVariants.{Long, Short}
use Rattle.vault_state.specs.declared.claims.Item.{Item}
use Rattle.vault_state.specs.declared.claims.Claim.{Claim}
use Rattle.vault_state.specs.declared.claims.Owner.{Owner}
use Rattle.vault_state.specs.declared.claims.Owner.TheVariants as owners
use Rattle.vault_state.specs.declared.session.Session.{Session}
use Rattle.vault_state.specs.Tree.{IsTree, is_part, find_place}
use Rattle.vault_state.proofs.NewTree.{tree_new}
use Rattle.std.specs.List.{IsDistinct, AllByRecursion}
use Rattle.vault_model.specs.Changes.{with_check_out, with_hold}
use Rattle.vault_state.specs.Claims.{new_check_out, new_hold, same_id, claim_of, without, without_session, without_short, is_session, is_short, put_first}
use Rattle.vault_state.specs.Limits.{most_items, most_claims, most_sessions, last_number}
use Rattle.vault_state.specs.Vault.{Vault, weight_of, IsDraft, AreDrafts, AreThere, IsGiven, Owns, IsNoteOf, IsClaim, AreSessions, IsVault, new_vault, durable, session_of, one_more, counted_in, CountsBelow}
use Rattle.vault_state.specs.declared.claims.PathItem.{PathItem}
use Rattle.vault_model.specs.Step.{placed}
use Rattle.std.specs.Option.{option_map, option_and_then}
use Rattle.std.proofs.lemmas.List.Sums.{sum_by-cons}
use Rattle.vault_state.specs.Limits.{most_drafts, most_weight}
use Rattle.vault_state.specs.Shelf.{Draft, content_weight, drafts_weight, versions_of, shelved_all, is_shelvable}
use Rattle.vault_state.specs.Drafts.{SavedDraft, saved_weight, with_draft, drafts_of, without_drafts, IsOrdered}
use Rattle.vault_state.proofs.Growth.{is_part-push, AreThere-push}
use Rattle.vault_state.proofs.Shelves.{none_shelved, shelf_stays, weight-shelved_all, versions_of-shelved_all}
use Rattle.vault_model.proofs.DraftsKept.{drafts_grown, drafts_left, drafts_asked, drafts_saved, fewer_drafts}
use Rattle.vault_state.proofs.Distinct.{IsDistinct-push, IsDistinct-filter}
use Rattle.vault_state.proofs.Overlaps.{eq_from}
use Rattle.vault_state.proofs.Stays.{ids, own_id, same_id_turned, kept_there, claim_there, held_there}

-- what holds of members that pass a test
pub All-kept : {X : Type 0} (P Q : X → Type 0) (keep : X → Bool) (xs : List X) → ((x : X) → P x → keep x ≡ true → Q x) → All P xs → All Q (filter keep xs)
All-kept P Q keep [] more all = All-nil Q
All-kept P Q keep (x ∷ xs) more all = by_test (keep x) refl (All-kept P Q keep xs more (All-tail P x xs all))
  where
    by_test : (b : Bool) → keep x ≡ b → All Q (filter keep xs) → All Q (cond b (x ∷ filter keep xs) (filter keep xs))
    by_test true e rest = All-cons Q x (filter keep xs) (more x (All-head P x xs all) e) rest
    by_test false e rest = rest

-- a session stays open as others join, are counted, or leave
stands_push : (sessions : List Session) (s : Session) (number : ℕ) → is_some (session_of sessions number) ≡ true → is_some (session_of (sessions ++ s ∷ []) number) ≡ true
stands_push [] s number h = cc
stands_push (t ∷ sessions) s number h = by_test (t.number == number) h (stands_push sessions s number)
  where
    by_test : (b : Bool) → is_some (cond b (Some t) (session_of sessions number)) ≡ true → (is_some (session_of sessions number) ≡ true → is_some (session_of (sessions ++ s ∷ []) number) ≡ true) → is_some (cond b (Some t) (session_of (sessions ++ s ∷ []) number)) ≡ true
    by_test true h ih = refl
    by_test false h ih = ih h

number_stays : (n : ℕ) (s : Session) → (one_more n s).number ≡ s.number
number_stays n s = by_test (s.number == n)
  where
    by_test : (b : Bool) → (cond b (record s { count = s.count + 1 }) s).number ≡ s.number
    by_test true = refl
    by_test false = refl

stands_counted : (n : ℕ) (sessions : List Session) (number : ℕ) → is_some (session_of (counted_in n sessions) number) ≡ is_some (session_of sessions number)
stands_counted n [] number = refl
stands_counted n (s ∷ sessions) number = rw (number_stays n s) (by_test (s.number == number) (stands_counted n sessions number))
  where
    by_test : (b : Bool) → is_some (session_of (counted_in n sessions) number) ≡ is_some (session_of sessions number)
        → is_some (cond b (Some (one_more n s)) (session_of (counted_in n sessions) number)) ≡ is_some (cond b (Some s) (session_of sessions number))
    by_test true ih = refl
    by_test false ih = ih

stands_without : (gone : ℕ) (sessions : List Session) (number : ℕ) → (number == gone) ≡ false → is_some (session_of sessions number) ≡ true → is_some (session_of (filter (λ (s : Session). not (s.number == gone)) sessions) number) ≡ true
stands_without gone [] number other h = cc
stands_without gone (s ∷ sessions) number other h = by_tests (s.number == gone) refl (s.number == number) refl h (stands_without gone sessions number other)
  where
    left : List Session
    left = filter (λ (t : Session). not (t.number == gone)) sessions

    by_tests : (a : Bool) → (s.number == gone) ≡ a → (b : Bool) → (s.number == number) ≡ b → is_some (cond b (Some s) (session_of sessions number)) ≡ true
        → (is_some (session_of sessions number) ≡ true → is_some (session_of left number) ≡ true) → is_some (session_of (cond (not a) (s ∷ left) left) number) ≡ true
    by_tests true g true e h ih =
        let one : s.number ≡ gone = eq_from s.number gone g in
        let two : s.number ≡ number = eq_from s.number number e in
        let clash : (number == gone) ≡ true = subst (λ k. (k == gone) ≡ true) two g in
        let no : true ≡ false = sym clash ∙ other in
        cc
    by_tests true g false e h ih = ih h
    by_tests false g true e h ih = rw e refl
    by_tests false g false e h ih = rw e (ih h)

own_number : (sessions : List Session) (number : ℕ) (s : Session) → session_of sessions number ≡ Some s → s.number ≡ number
own_number [] number s e = cc
own_number (t ∷ others) number s e = by_test (t.number == number) refl e (own_number others number s)
  where
    by_test : (b : Bool) → (t.number == number) ≡ b → cond b (Some t) (session_of others number) ≡ Some s → (session_of others number ≡ Some s → s.number ≡ number) → s.number ≡ number
    by_test true g h rest = let same : t ≡ s = cc in subst (λ (x : Session). x.number ≡ number) same (eq_from t.number number g)
    by_test false g h rest = rest h

-- a session that is found is found by its own number, too
pub session_stands : (sessions : List Session) (number : ℕ) (s : Session) → session_of sessions number ≡ Some s → is_some (session_of sessions s.number) ≡ true
session_stands sessions number s found = rw (own_number sessions number s found) (rw found refl)

-- a claim keeps its invariant with other sessions, if its own is among them
claim_with : (tree : List Place) (sessions others : List Session) (last_long last_short : ℕ) (c : Claim) → ((number : ℕ) → is_some (session_of sessions number) ≡ true → is_some (session_of others number) ≡ true) → IsClaim tree sessions last_long last_short c → IsClaim tree others last_long last_short c
claim_with tree sessions others last_long last_short c more h = record { given = h.given; owned = by_owner c.owner c.id h.owned; some = h.some; few = h.few; there = h.there; noted = h.noted }
  where
    by_owner : (owner : Owner) (id : ClaimId) → Owns sessions owner id → Owns others owner id
    by_owner (owners.Designer name) (Long n) owned = tt
    by_owner (owners.Session number) (Short n) owned = more number owned
    by_owner (owners.Designer name) (Short n) owned = owned
    by_owner (owners.Session number) (Long n) owned = owned

-- the queue is shorter without a claim that was in it
without_shorter : (line : List Claim) (id : ClaimId) → length (without line id) + cond (is_some (claim_of line id)) 1 0 ≤ length line
without_shorter [] id = omega arith
without_shorter (x ∷ line) id = by_test (same_id x.id id) (claim_of line id) (without_shorter line id)
  where
    by_test : (b : Bool) (o : Option Claim) → length (without line id) + cond (is_some o) 1 0 ≤ length line
        → length (cond (not b) (x ∷ without line id) (without line id)) + cond (is_some (cond b (Some x) o)) 1 0 ≤ suc (length line)
    by_test true None h = omega arith
    by_test true (Some c) h = omega arith
    by_test false None h = omega arith
    by_test false (Some c) h = omega arith

pub without_less : (line : List Claim) (id : ClaimId) → is_some (claim_of line id) ≡ true → length (without line id) < length line
without_less line id stands = let shorter = without_shorter line id in let less = rw stands at shorter in omega (arith, less)

-- and no claim in it has the id
without_none : (line : List Claim) (id : ClaimId) → AllByRecursion (λ k. same_id id k ≡ false) (ids (without line id))
without_none [] id = tt
without_none (x ∷ line) id = by_test (same_id x.id id) refl (without_none line id)
  where
    by_test : (b : Bool) → same_id x.id id ≡ b → AllByRecursion (λ k. same_id id k ≡ false) (ids (without line id)) → AllByRecursion (λ k. same_id id k ≡ false) (ids (cond (not b) (x ∷ without line id) (without line id)))
    by_test true e rest = rest
    by_test false e rest = (same_id_turned x.id id e, rest)

-- fewer drafts weigh no more
lighter_drafts : (keep : SavedDraft → Bool) (xs : List SavedDraft) → saved_weight (filter keep xs) ≤ saved_weight xs
lighter_drafts keep [] = omega arith
lighter_drafts keep (x ∷ xs) = by_test (keep x) (lighter_drafts keep xs)
  where
    split : saved_weight (x ∷ xs) ≡ content_weight x.draft.content + saved_weight xs
    split = sum_by-cons (λ (d : Draft). content_weight d.content) x.draft (map (λ (y : SavedDraft). y.draft) xs)

    split_kept : saved_weight (x ∷ filter keep xs) ≡ content_weight x.draft.content + saved_weight (filter keep xs)
    split_kept = sum_by-cons (λ (d : Draft). content_weight d.content) x.draft (map (λ (y : SavedDraft). y.draft) (filter keep xs))

    by_test : (b : Bool) → saved_weight (filter keep xs) ≤ saved_weight xs → saved_weight (cond b (x ∷ filter keep xs) (filter keep xs)) ≤ saved_weight (x ∷ xs)
    by_test true h = rw (split, split_kept) (omega arith)
    by_test false h = rw split (omega arith)

-- the drafts of a check-out and those of the others weigh what all do
pub split_weight : (number : ℕ) (xs : List SavedDraft) → drafts_weight (drafts_of xs number) + saved_weight (without_drafts xs number) ≡ saved_weight xs
split_weight number [] = refl
split_weight number (x ∷ xs) = by_test (x.claim == number) (split_weight number xs)
  where
    all : saved_weight (x ∷ xs) ≡ content_weight x.draft.content + saved_weight xs
    all = sum_by-cons (λ (d : Draft). content_weight d.content) x.draft (map (λ (y : SavedDraft). y.draft) xs)

    mine : drafts_weight (x.draft ∷ drafts_of xs number) ≡ content_weight x.draft.content + drafts_weight (drafts_of xs number)
    mine = sum_by-cons (λ (d : Draft). content_weight d.content) x.draft (drafts_of xs number)

    others : saved_weight (x ∷ without_drafts xs number) ≡ content_weight x.draft.content + saved_weight (without_drafts xs number)
    others = sum_by-cons (λ (d : Draft). content_weight d.content) x.draft (map (λ (y : SavedDraft). y.draft) (without_drafts xs number))

    by_test : (b : Bool) → drafts_weight (drafts_of xs number) + saved_weight (without_drafts xs number) ≡ saved_weight xs
        → drafts_weight (map (λ (y : SavedDraft). y.draft) (cond b (x ∷ filter (λ (y : SavedDraft). y.claim == number) xs) (filter (λ (y : SavedDraft). y.claim == number) xs)))
        + saved_weight (cond (not b) (x ∷ without_drafts xs number) (without_drafts xs number)) ≡ saved_weight (x ∷ xs)
    by_test true h = rw (all, mine) (omega arith)
    by_test false h = rw (all, others) (omega arith)

-- a claim that is found and passes the test is found among those that do
kept_found : (keep : Claim → Bool) (line : List Claim) (id : ClaimId) (c : Claim) → claim_of line id ≡ Some c → keep c ≡ true → is_some (claim_of (filter keep line) id) ≡ true
kept_found keep [] id c found passes = cc
kept_found keep (x ∷ line) id c found passes = by_tests (same_id x.id id) refl found (kept_found keep line id c)
  where
    by_tests : (b : Bool) → same_id x.id id ≡ b → cond b (Some x) (claim_of line id) ≡ Some c → (claim_of line id ≡ Some c → keep c ≡ true → is_some (claim_of (filter keep line) id) ≡ true) → is_some (claim_of (filter keep (x ∷ line)) id) ≡ true
    by_tests true g h ih = let same : x ≡ c = cc in let good : keep x ≡ true = subst (λ d. keep d ≡ true) (sym same) passes in rw good (rw g refl)
    by_tests false g h ih = by_keep (keep x)
      where
        by_keep : (k : Bool) → is_some (claim_of (cond k (x ∷ filter keep line) (filter keep line)) id) ≡ true
        by_keep true = rw g (ih h passes)
        by_keep false = ih h passes

module _ (v : Vault) (kept : IsVault v) where
  few_left : (keep : Claim → Bool) → length (filter keep v.line) ≤ most_claims
  few_left keep = let same = length-filter keep v.line in let bound = count_by-le-length keep v.line in let few = kept.few_claims in omega arith

  pub kept_made : (x : Place) → IsTree (v.tree ++ x ∷ []) → x.parent ≤ length v.tree → IsVault (record v { tree = v.tree ++ x ∷ [] })
  kept_made x tree parent = record {
    tree = tree;
    few_claims = kept.few_claims;
    claims = All-weaker (IsClaim v.tree v.sessions v.last_long v.last_short) (IsClaim (v.tree ++ x ∷ []) v.sessions v.last_long v.last_short)
        (λ c h. record { given = h.given; owned = h.owned; some = h.some; few = h.few; there = AreThere-push v.tree x c.items h.there; noted = h.noted }) v.line kept.claims;
    apart = kept.apart;
    sessions = kept.sessions;
    numbers = kept.numbers;
    versions = record {
      shelf_is = kept.versions.shelf_is;
      parts = λ place some.
          let old = kept.versions.parts place some in
          let within = old.0 in
          let longer = length-append v.tree (x ∷ []) in
          (omega arith, is_part-push v.tree x place old.0 ∙ old.1);
    };
    drafts = drafts_grown v.tree x kept.tree.parents parent v.line (All-weaker (IsClaim v.tree v.sessions v.last_long v.last_short) (λ (c : Claim). AreThere v.tree c.items) (λ c h. h.there) v.line kept.claims) v.drafts kept.drafts;
    light = kept.light;
  }

  -- some claims left alone, with some drafts of theirs
  pub kept_left : (keep : Claim → Bool) (drafts : List SavedDraft) → AreDrafts v.tree (filter keep v.line) drafts → saved_weight drafts ≤ saved_weight v.drafts → IsVault (record v { line = filter keep v.line; drafts = drafts })
  kept_left keep drafts are less = record {
    tree = kept.tree;
    few_claims = let same = length-filter keep v.line in let bound = count_by-le-length keep v.line in let few = kept.few_claims in omega arith;
    claims = All-filter keep (IsClaim v.tree v.sessions v.last_long v.last_short) v.line kept.claims;
    apart = IsDistinct-filter same_id (λ (c : Claim). c.id) keep v.line kept.apart;
    sessions = kept.sessions;
    numbers = kept.numbers;
    versions = kept.versions;
    drafts = are;
    light = let old = kept.light in omega arith;
  }

  -- without a short claim, which has no drafts
  pub kept_released : (number : ℕ) → IsVault (record v { line = without v.line (Short number) })
  kept_released number =
      kept_left (λ c. not (same_id c.id (Short number))) v.drafts
      (drafts_left v.tree v.line (λ c. not (same_id c.id (Short number))) v.drafts kept.apart (still v.drafts kept.drafts.each) kept.drafts) (omega arith)
    where
      still : (xs : List SavedDraft) → All (IsDraft v.tree v.line) xs → All (λ (x : SavedDraft). is_some (claim_of (without v.line (Short number)) (Long x.claim)) ≡ true) xs
      still [] all = All-nil (λ (x : SavedDraft). is_some (claim_of (without v.line (Short number)) (Long x.claim)) ≡ true)
      still (x ∷ xs) all =
          All-cons (λ (x : SavedDraft). is_some (claim_of (without v.line (Short number)) (Long x.claim)) ≡ true) x xs
          (kept_there (λ c. not (same_id c.id (Short number))) v.line (Long x.claim) (λ c own. rw own refl) (held_there v.tree v.line (Long x.claim) (All-head (IsDraft v.tree v.line) x xs all).held))
          (still xs (All-tail (IsDraft v.tree v.line) x xs all))

  -- without a check-out and its drafts
  pub drafts_without : (number : ℕ) → AreDrafts v.tree (without v.line (Long number)) (without_drafts v.drafts number)
  drafts_without number =
      drafts_left v.tree v.line (λ c. not (same_id c.id (Long number))) (without_drafts v.drafts number) kept.apart (still v.drafts kept.drafts.each)
      (fewer_drafts v.tree v.line (λ (x : SavedDraft). not (x.claim == number)) v.drafts kept.drafts)
    where
      still : (xs : List SavedDraft) → All (IsDraft v.tree v.line) xs → All (λ (x : SavedDraft). is_some (claim_of (without v.line (Long number)) (Long x.claim)) ≡ true) (without_drafts xs number)
      still xs all = All-kept (IsDraft v.tree v.line) (λ (x : SavedDraft). is_some (claim_of (without v.line (Long number)) (Long x.claim)) ≡ true) (λ (x : SavedDraft). not (x.claim == number)) xs
          (λ x h e. kept_there (λ c. not (same_id c.id (Long number))) v.line (Long x.claim) (λ c own. rw own e) (held_there v.tree v.line (Long x.claim) h.held)) all

  pub kept_without : (number : ℕ) → IsVault (record v { line = without v.line (Long number); drafts = without_drafts v.drafts number })
  kept_without number = kept_left (λ c. not (same_id c.id (Long number))) (without_drafts v.drafts number) (drafts_without number) (lighter_drafts (λ (x : SavedDraft). not (x.claim == number)) v.drafts)

  pub kept_asked : (c : Claim) (m n : ℕ) → v.last_long ≤ m → v.last_short ≤ n → IsGiven m n c.id → ((id : ClaimId) → IsGiven v.last_long v.last_short id → same_id id c.id ≡ false) → Owns v.sessions c.owner c.id
      → m ≤ last_number → n ≤ last_number → length v.line < most_claims → 0 < length c.items → length c.items ≤ most_items → AreThere v.tree c.items → IsNoteOf c.id c.note → IsVault (record v { line = v.line ++ c ∷ []; last_long = m; last_short = n })
  kept_asked c m n long short given fresh owned below_long below_short room some few there noted = record {
    tree = kept.tree;
    few_claims = let longer = length-append v.line (c ∷ []) in omega arith;
    claims = All-push (IsClaim v.tree v.sessions m n) v.line c
        (All-weaker (IsClaim v.tree v.sessions v.last_long v.last_short) (IsClaim v.tree v.sessions m n) (λ d h. record { given = later d.id h.given; owned = h.owned; some = h.some; few = h.few; there = h.there; noted = h.noted }) v.line kept.claims)
        (record { given = given; owned = owned; some = some; few = few; there = there; noted = noted });
    apart = IsDistinct-push same_id (λ (d : Claim). d.id) v.line c kept.apart
        (All-weaker (IsClaim v.tree v.sessions v.last_long v.last_short) (λ (d : Claim). same_id d.id c.id ≡ false) (λ d h. fresh d.id h.given) v.line kept.claims);
    sessions = kept.sessions;
    numbers = record { session = kept.numbers.session; long = below_long; short = below_short };
    versions = kept.versions;
    drafts = drafts_asked v.tree v.line c v.drafts kept.drafts;
    light = kept.light;
  }
    where
      later : (id : ClaimId) → IsGiven v.last_long v.last_short id → IsGiven m n id
      later (Long k) h = let low = h.0 in let high = h.1 in (omega arith, omega arith)
      later (Short k) h = let low = h.0 in let high = h.1 in (omega arith, omega arith)

  pub kept_asked_long : (designer : List ℕ) (items : List Item) → v.last_long < last_number → length v.line < most_claims → 0 < length items → length items ≤ most_items → AreThere v.tree items
      → IsVault (with_check_out v (v.last_long + 1) designer items)
  kept_asked_long designer items below room some few there =
      kept_asked (new_check_out (v.last_long + 1) designer items) (v.last_long + 1) v.last_short (omega arith) (omega arith) (omega arith, omega arith) fresh tt
      (omega (arith, below)) kept.numbers.short room some few there (omega arith)
    where
      fresh : (id : ClaimId) → IsGiven v.last_long v.last_short id → same_id id (Long (v.last_long + 1)) ≡ false
      fresh (Long n) h = let high = h.1 in grind (arith, nat_tests)
      fresh (Short n) h = refl

  pub kept_asked_short : (session : ℕ) (items : List Item) → is_some (session_of v.sessions session) ≡ true → v.last_short < last_number → length v.line < most_claims → 0 < length items → length items ≤ most_items → AreThere v.tree items
      → IsVault (with_hold v (v.last_short + 1) session items)
  kept_asked_short session items stands below room some few there =
      kept_asked (new_hold (v.last_short + 1) session items) v.last_long (v.last_short + 1) (omega arith) (omega arith) (omega arith, omega arith) fresh stands
      kept.numbers.long (omega (arith, below)) room some few there refl
    where
      fresh : (id : ClaimId) → IsGiven v.last_long v.last_short id → same_id id (Short (v.last_short + 1)) ≡ false
      fresh (Long n) h = refl
      fresh (Short n) h = let high = h.1 in grind (arith, nat_tests)

  -- a claim with other items, put first
  pub kept_first : (id : ClaimId) (claim : Claim) (items : List Item) → claim_of v.line id ≡ Some claim → 0 < length items → length items ≤ most_items → AreThere v.tree items → AreDrafts v.tree (put_first v.line id items) v.drafts → IsVault (record v { line = put_first v.line id items })
  unfolding IsDistinct
  kept_first id claim items found some few there drafts = rw found (record {
    tree = kept.tree;
    few_claims =
        let less = without_less v.line id (rw found refl) in
        let bound = kept.few_claims in
        omega arith;
    claims = All-cons (IsClaim v.tree v.sessions v.last_long v.last_short) (record claim { items = items }) (without v.line id)
        (let h = claim_there (IsClaim v.tree v.sessions v.last_long v.last_short) v.line id kept.claims claim found in record { given = h.given; owned = h.owned; some = some; few = few; there = there; noted = h.noted })
        (All-filter (λ (c : Claim). not (same_id c.id id)) (IsClaim v.tree v.sessions v.last_long v.last_short) v.line kept.claims);
    apart = (
      subst (λ k. AllByRecursion (λ j. same_id k j ≡ false) (ids (without v.line id))) (sym (own_id v.line id claim found)) (without_none v.line id),
      IsDistinct-filter same_id (λ (c : Claim). c.id) (λ c. not (same_id c.id id)) v.line kept.apart,
    );
    sessions = kept.sessions;
    numbers = kept.numbers;
    versions = kept.versions;
    drafts = rw found at drafts;
    light = kept.light;
  })

  -- other sessions, with all those that own claims
  kept_sessions : (sessions : List Session) (last : ℕ) → last ≤ last_number → AreSessions last sessions → ((number : ℕ) → is_some (session_of v.sessions number) ≡ true → is_some (session_of sessions number) ≡ true) → IsVault (record v { sessions = sessions; last_session = last })
  kept_sessions sessions last below are more = record {
    tree = kept.tree;
    few_claims = kept.few_claims;
    claims = All-weaker (IsClaim v.tree v.sessions v.last_long v.last_short) (IsClaim v.tree sessions v.last_long v.last_short) (λ c h. claim_with v.tree v.sessions sessions v.last_long v.last_short c more h) v.line kept.claims;
    apart = kept.apart;
    sessions = are;
    numbers = record { session = below; long = kept.numbers.long; short = kept.numbers.short };
    versions = kept.versions;
    drafts = kept.drafts;
    light = kept.light;
  }

  pub kept_joined : (s : Session) → s.number ≡ v.last_session + 1 → v.last_session < last_number → length v.sessions < most_sessions → IsVault (record v { sessions = v.sessions ++ s ∷ []; last_session = v.last_session + 1 })
  kept_joined s is below room = kept_sessions (v.sessions ++ s ∷ []) (v.last_session + 1) (omega (arith, below)) are (stands_push v.sessions s)
    where
      are : AreSessions (v.last_session + 1) (v.sessions ++ s ∷ [])
      are = record {
        few = let longer = length-append v.sessions (s ∷ []) in omega arith;
        numbers = All-push (λ (t : Session). (0 < t.number) × (t.number ≤ v.last_session + 1)) v.sessions s
            (All-weaker (λ (t : Session). (0 < t.number) × (t.number ≤ v.last_session)) (λ (t : Session). (0 < t.number) × (t.number ≤ v.last_session + 1)) (λ t h. let low = h.0 in let high = h.1 in (omega arith, omega arith)) v.sessions kept.sessions.numbers)
            (rw is (omega arith, omega arith));
        distinct = IsDistinct-push nat_eq (λ (t : Session). t.number) v.sessions s kept.sessions.distinct
            (All-weaker (λ (t : Session). (0 < t.number) × (t.number ≤ v.last_session)) (λ (t : Session). nat_eq t.number s.number ≡ false) (λ t h. let high = h.1 in grind (arith, nat_tests)) v.sessions kept.sessions.numbers);
      }

  -- without a session and its short claims
  pub kept_gone : (gone : ℕ) → IsVault (record v { line = without_session gone v.line; sessions = filter (λ (s : Session). not (s.number == gone)) v.sessions })
  kept_gone gone = record {
    tree = kept.tree;
    few_claims = few_left (λ (c : Claim). not (is_session gone c.owner));
    claims = All-kept (IsClaim v.tree v.sessions v.last_long v.last_short) (IsClaim v.tree (filter (λ (s : Session). not (s.number == gone)) v.sessions) v.last_long v.last_short) (λ (c : Claim). not (is_session gone c.owner)) v.line
        (λ c h e. record { given = h.given; owned = by_owner c.owner c.id e h.owned; some = h.some; few = h.few; there = h.there; noted = h.noted }) kept.claims;
    apart = IsDistinct-filter same_id (λ (c : Claim). c.id) (λ (c : Claim). not (is_session gone c.owner)) v.line kept.apart;
    versions = kept.versions;
    drafts = drafts_left v.tree v.line (λ (c : Claim). not (is_session gone c.owner)) v.drafts kept.apart (still v.drafts kept.drafts.each) kept.drafts;
    light = kept.light;
    numbers = kept.numbers;
    sessions = record {
      few = let same = length-filter (λ (s : Session). not (s.number == gone)) v.sessions in let bound = count_by-le-length (λ (s : Session). not (s.number == gone)) v.sessions in let few = kept.sessions.few in omega arith;
      numbers = All-filter (λ (s : Session). not (s.number == gone)) (λ (s : Session). (0 < s.number) × (s.number ≤ v.last_session)) v.sessions kept.sessions.numbers;
      distinct = IsDistinct-filter nat_eq (λ (s : Session). s.number) (λ (s : Session). not (s.number == gone)) v.sessions kept.sessions.distinct;
    };
  }
    where
      designers : (owner : Owner) (number : ℕ) → Owns v.sessions owner (Long number) → not (is_session gone owner) ≡ true
      designers (owners.Designer name) number owned = refl
      designers (owners.Session other) number owned = absurd owned

      of_claim : (number : ℕ) (o : Option Claim) → claim_of v.line (Long number) ≡ o → is_some o ≡ true → is_some (claim_of (without_session gone v.line) (Long number)) ≡ true
      of_claim number None found e = cc
      of_claim number (Some c) found e =
          let h = claim_there (IsClaim v.tree v.sessions v.last_long v.last_short) v.line (Long number) kept.claims c found in
          let owned : Owns v.sessions c.owner (Long number) = subst (λ k. Owns v.sessions c.owner k) (own_id v.line (Long number) c found) h.owned in
          kept_found (λ (c : Claim). not (is_session gone c.owner)) v.line (Long number) c found (designers c.owner number owned)

      still : (xs : List SavedDraft) → All (IsDraft v.tree v.line) xs → All (λ (x : SavedDraft). is_some (claim_of (without_session gone v.line) (Long x.claim)) ≡ true) xs
      still [] all = All-nil (λ (x : SavedDraft). is_some (claim_of (without_session gone v.line) (Long x.claim)) ≡ true)
      still (x ∷ xs) all =
          All-cons (λ (x : SavedDraft). is_some (claim_of (without_session gone v.line) (Long x.claim)) ≡ true) x xs
          (of_claim x.claim (claim_of v.line (Long x.claim)) refl (held_there v.tree v.line (Long x.claim) (All-head (IsDraft v.tree v.line) x xs all).held))
          (still xs (All-tail (IsDraft v.tree v.line) x xs all))

      turned : (b : Bool) → not b ≡ true → b ≡ false
      turned true e = cc
      turned false e = refl

      by_owner : (owner : Owner) (id : ClaimId) → not (is_session gone owner) ≡ true → Owns v.sessions owner id → Owns (filter (λ (s : Session). not (s.number == gone)) v.sessions) owner id
      by_owner (owners.Designer name) (Long n) e owned = tt
      by_owner (owners.Session number) (Short n) e owned = stands_without gone v.sessions number (turned (number == gone) e) owned
      by_owner (owners.Designer name) (Short n) e owned = owned
      by_owner (owners.Session number) (Long n) e owned = owned

  pub kept_durable : IsVault (durable v)
  unfolding IsDistinct
  kept_durable = record {
    tree = kept.tree;
    few_claims = few_left (λ (c : Claim). not (is_short c.id));
    claims = All-kept (IsClaim v.tree v.sessions v.last_long v.last_short) (IsClaim v.tree [] v.last_long 0) (λ (c : Claim). not (is_short c.id)) v.line
        (λ c h e. record { given = by_id c.id e h.given; owned = by_owner c.owner c.id e h.owned; some = h.some; few = h.few; there = h.there; noted = h.noted }) kept.claims;
    apart = IsDistinct-filter same_id (λ (c : Claim). c.id) (λ (c : Claim). not (is_short c.id)) v.line kept.apart;
    versions = kept.versions;
    drafts = drafts_left v.tree v.line (λ (c : Claim). not (is_short c.id)) v.drafts kept.apart (still v.drafts kept.drafts.each) kept.drafts;
    light = kept.light;
    numbers = record { session = omega arith; long = kept.numbers.long; short = omega arith };
    sessions = record { few = omega arith; numbers = All-nil (λ (s : Session). (0 < s.number) × (s.number ≤ 0)); distinct = tt };
  }
    where
      still : (xs : List SavedDraft) → All (IsDraft v.tree v.line) xs → All (λ (x : SavedDraft). is_some (claim_of (without_short v.line) (Long x.claim)) ≡ true) xs
      still [] all = All-nil (λ (x : SavedDraft). is_some (claim_of (without_short v.line) (Long x.claim)) ≡ true)
      still (x ∷ xs) all =
          All-cons (λ (x : SavedDraft). is_some (claim_of (without_short v.line) (Long x.claim)) ≡ true) x xs
          (kept_there (λ (c : Claim). not (is_short c.id)) v.line (Long x.claim) (λ c own. rw own refl) (held_there v.tree v.line (Long x.claim) (All-head (IsDraft v.tree v.line) x xs all).held))
          (still xs (All-tail (IsDraft v.tree v.line) x xs all))

      by_id : (id : ClaimId) → not (is_short id) ≡ true → IsGiven v.last_long v.last_short id → IsGiven v.last_long 0 id
      by_id (Long n) e h = h
      by_id (Short n) e h = cc

      by_owner : (owner : Owner) (id : ClaimId) → not (is_short id) ≡ true → Owns v.sessions owner id → Owns [] owner id
      by_owner (owners.Designer name) (Long n) e owned = tt
      by_owner (owners.Session number) (Short n) e owned = cc
      by_owner (owners.Designer name) (Short n) e owned = owned
      by_owner (owners.Session number) (Long n) e owned = owned

  -- one draft more, or in place of another
  pub kept_saved : (new : SavedDraft) → IsDraft v.tree v.line new → length (drafts_of (with_draft v.drafts new) new.claim) ≤ most_drafts → weight_of (record v { drafts = with_draft v.drafts new }) ≤ most_weight → IsVault (record v { drafts = with_draft v.drafts new })
  kept_saved new fits few light = record {
    tree = kept.tree;
    few_claims = kept.few_claims;
    claims = kept.claims;
    apart = kept.apart;
    sessions = kept.sessions;
    numbers = kept.numbers;
    versions = kept.versions;
    drafts = drafts_saved v.tree v.line v.drafts new kept.drafts fits few;
    light = light;
  }

  -- a place that has a draft is a part
  drafted_part : (number place : ℕ) (xs : List SavedDraft) → All (IsDraft v.tree v.line) xs → map (λ (d : Draft). d.content) (filter (λ (d : Draft). d.place == place) (drafts_of xs number)) ≢ [] → (place ≤ length v.tree) × (is_part v.tree place ≡ true)
  drafted_part number place [] all some = absurd (some refl)
  drafted_part number place (x ∷ xs) all some = by_claim (x.claim == number) some (drafted_part number place xs (All-tail (IsDraft v.tree v.line) x xs all))
    where
      h : IsDraft v.tree v.line x
      h = All-head (IsDraft v.tree v.line) x xs all

      by_claim : (b : Bool) → map (λ (d : Draft). d.content) (filter (λ (d : Draft). d.place == place) (map (λ (y : SavedDraft). y.draft) (cond b (x ∷ filter (λ (y : SavedDraft). y.claim == number) xs) (filter (λ (y : SavedDraft). y.claim == number) xs)))) ≢ []
          → (map (λ (d : Draft). d.content) (filter (λ (d : Draft). d.place == place) (drafts_of xs number)) ≢ [] → (place ≤ length v.tree) × (is_part v.tree place ≡ true)) → (place ≤ length v.tree) × (is_part v.tree place ≡ true)
      by_claim false more rest = rest more
      by_claim true more rest = by_place (x.draft.place == place) refl more
        where
          by_place : (b : Bool) → (x.draft.place == place) ≡ b → map (λ (d : Draft). d.content) (cond b (x.draft ∷ filter (λ (d : Draft). d.place == place) (drafts_of xs number)) (filter (λ (d : Draft). d.place == place) (drafts_of xs number))) ≢ [] → (place ≤ length v.tree) × (is_part v.tree place ≡ true)
          by_place true e m = let same : x.draft.place ≡ place = eq_from x.draft.place place e in subst (λ p. (p ≤ length v.tree) × (is_part v.tree p ≡ true)) same (h.there, h.part)
          by_place false e m = rest m

  -- drafts become versions, and their check-out goes
  pub kept_checked_in : (number : ℕ) → is_shelvable v.shelf (drafts_of v.drafts number) ≡ true
      → IsVault (record v { shelf = shelved_all v.shelf (drafts_of v.drafts number); line = without v.line (Long number); drafts = without_drafts v.drafts number })
  kept_checked_in number fits =
      let left = kept_without number in
      record {
        tree = kept.tree;
        few_claims = left.few_claims;
        claims = left.claims;
        apart = left.apart;
        sessions = kept.sessions;
        numbers = kept.numbers;
        versions = record {
          shelf_is = shelf_stays v.shelf (drafts_of v.drafts number) kept.versions.shelf_is fits;
          parts = λ place some. by_old place (versions_of v.shelf place) refl (λ e. some (versions_of-shelved_all v.shelf (drafts_of v.drafts number) place ∙ e));
        };
        drafts = left.drafts;
        light =
            let grown = weight-shelved_all v.shelf (drafts_of v.drafts number) in
            let split = split_weight number v.drafts in
            let old = kept.light in
            omega arith;
      }
    where
      by_old : (place : ℕ) (old : List (List ℕ)) → versions_of v.shelf place ≡ old → (versions_of v.shelf place ++ map (λ (d : Draft). d.content) (filter (λ (d : Draft). d.place == place) (drafts_of v.drafts number)) ≢ [])
          → (place ≤ length v.tree) × (is_part v.tree place ≡ true)
      by_old place [] e some = drafted_part number place v.drafts kept.drafts.each (λ none. some (rw (e, none) refl))
      by_old place (version ∷ more) e some = kept.versions.parts place (λ none. let clash : version ∷ more ≡ [] = sym e ∙ none in cc)

numbers_stay : (n : ℕ) (sessions : List Session) → map (λ (s : Session). s.number) (counted_in n sessions) ≡ map (λ (s : Session). s.number) sessions
numbers_stay n [] = refl
numbers_stay n (s ∷ sessions) = rw (number_stays n s) (ap (λ rest. s.number ∷ rest) (numbers_stay n sessions))

pub kept_counted : (v : Vault) (n : ℕ) → IsVault v → IsVault (record v { sessions = counted_in n v.sessions })
kept_counted v n kept = kept_sessions v kept (counted_in n v.sessions) v.last_session kept.numbers.session are (λ number stands. stands_counted n v.sessions number ∙ stands)
  where
    are : AreSessions v.last_session (counted_in n v.sessions)
    are = record {
      few = rw length-map kept.sessions.few;
      numbers = All-map (λ (s : Session). (0 < s.number) × (s.number ≤ v.last_session)) (one_more n) v.sessions
          (All-weaker (λ (s : Session). (0 < s.number) × (s.number ≤ v.last_session)) (λ (s : Session). (0 < (one_more n s).number) × ((one_more n s).number ≤ v.last_session)) (λ s h. rw (number_stays n s) h) v.sessions kept.sessions.numbers);
      distinct = rw (numbers_stay n v.sessions) kept.sessions.distinct;
    }

-- as many items are placed as are wanted
pub length-placed : (tree : List Place) (wanted : List PathItem) (items : List Item) → placed tree wanted ≡ Some items → length items ≡ length wanted
length-placed tree [] items e = let same : [] ≡ items = cc in rw (← same) refl
length-placed tree (w ∷ wanted) items e = by_place (find_place tree w.path) e (placed tree wanted) refl (length-placed tree wanted)
  where
    by_place : (o : Option ℕ) → option_and_then (λ place. option_map (λ others. record { intent = w.intent; place = place } ∷ others) (placed tree wanted)) o ≡ Some items → (p : Option (List Item)) → placed tree wanted ≡ p → ((others : List Item) → placed tree wanted ≡ Some others → length others ≡ length wanted) → length items ≡ suc (length wanted)
    by_place None h p k ih = cc
    by_place (Some place) h None k ih = let h2 = rw k at h in cc
    by_place (Some place) h (Some others) k ih =
        let h2 = rw k at h in
        let same : record { intent = w.intent; place = place } ∷ others ≡ items = cc in
        rw (← same) (ap suc (ih others k))

pub kept_new : IsVault new_vault
unfolding IsDistinct IsOrdered
kept_new = record {
  tree = tree_new;
  few_claims = omega arith;
  claims = All-nil (IsClaim [] [] 0 0);
  apart = tt;
  numbers = record { session = omega arith; long = omega arith; short = omega arith };
  sessions = record { few = omega arith; numbers = All-nil (λ (s : Session). (0 < s.number) × (s.number ≤ 0)); distinct = tt };
  versions = record { shelf_is = none_shelved; parts = λ place some. absurd (some refl) };
  drafts = record { each = All-nil (IsDraft [] []); few = λ number. omega arith; ordered = tt };
  light = omega arith;
}

count_rises : (n bound : ℕ) (s : Session) → s.count < bound → (one_more n s).count < bound + 1
count_rises n bound s h = by_test (s.number == n)
  where
    by_test : (b : Bool) → (cond b (record s { count = s.count + 1 }) s).count < bound + 1
    by_test true = omega arith
    by_test false = omega arith

-- a session's command raises each count by at most one
pub counts_rise : (n bound : ℕ) (v : Vault) → CountsBelow bound v → CountsBelow (bound + 1) (record v { sessions = counted_in n v.sessions })
counts_rise n bound v h = record {
  door = let low = h.door in omega arith;
  each = All-map (λ (s : Session). s.count < bound + 1) (one_more n) v.sessions
      (All-weaker (λ (s : Session). s.count < bound) (λ (s : Session). (one_more n s).count < bound + 1) (λ s k. count_rises n bound s k) v.sessions h.each);
}

-- when a session leaves, no count changes
pub counts_left : (gone bound : ℕ) (v : Vault) (line : List Claim) → CountsBelow bound v → CountsBelow bound (record v { line = line; sessions = filter (λ (s : Session). not (s.number == gone)) v.sessions })
counts_left gone bound v line h = record { door = h.door; each = All-filter (λ (s : Session). not (s.number == gone)) (λ (s : Session). s.count < bound) v.sessions h.each }
