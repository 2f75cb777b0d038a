-- A claim is shown with the items that were asked for.
use Rattle.std.specs.Prelude.{◌≡◌, ℕ, suc, ◌+◌, ◌==◌, not, List, [], ◌∷◌, ◌++◌, map, take_while, Option, None, Some, Result, Ok, IfOk, All, slice_get, slice_index_or, position, refl, true, Bool, false}
use Rattle.std.proofs.Common.{sym, subst, ap, ◌∙◌, cond, arith, append-nil, append_assoc}
use Rattle.std.specs.Option.{option_map, option_and_then, ok_or, option_map_or}
use Rattle.std.specs.Str.{bytes_eq}
use Rattle.std.proofs.lemmas.Option.{slice_get-get_or}
use Rattle.std.proofs.lemmas.List.Elements.{All-head, All-tail, All-weaker}
use Rattle.std.proofs.lemmas.List.Quantifiers.{position-Some}
use Rattle.std.proofs.lemmas.Bool.Decides.{nat_tests}
use Rattle.std.proofs.lemmas.Slice.Eq.{bytes_eq-Decides}
use Rattle.vault_state.specs.declared.place.Place.{Place}
use Rattle.vault_state.specs.declared.claims.Item.{Item}
use Rattle.vault_state.specs.declared.claims.Claim.{Claim}
use Rattle.vault_state.specs.declared.claims.PathItem.{PathItem}
use Rattle.vault_state.specs.declared.claims.Standing.{Standing}
use Rattle.vault_state.specs.declared.ids.ClaimId.{ClaimId}
use Rattle.vault_state.specs.declared.ids.ClaimId.TheVariants.{Long, Short}
use Rattle.vault_state.specs.declared.session.Session.{Session}
use Rattle.vault_model.specs.Said.{Reply}
use Rattle.vault_state.specs.declared.claims.Standing.TheVariants as standings
use Rattle.vault_model.specs.declared.replies.ShownClaim.{ShownClaim}
use Rattle.vault_state.specs.Tree.{no_place, is_child, child, find_below, find_place, path_of}
use Rattle.vault_state.specs.Claims.{same_id, claim_of, before, standing_of, standing_behind, new_check_out, new_hold, is_held, put_first, without}
use Rattle.vault_state.specs.Vault.{Vault, IsVault, IsClaim, IsGiven}
use Rattle.vault_state.proofs.Walks.{Rises}
use Rattle.vault_state.proofs.Ways.{path_of-step}
use Rattle.vault_state.proofs.Overlaps.{and_both, eq_from}
use Rattle.vault_state.proofs.Stays.{take_while-cons, same_id_itself, own_id}
use Rattle.vault_model.specs.declared.commands.Command.TheVariants as commands
use Rattle.vault_model.specs.declared.replies.Reply.TheVariants as replies
use Rattle.vault_model.specs.declared.replies.Refusal.{Refusal}
use Rattle.vault_model.specs.declared.replies.Refusal.TheVariants.{NoClaim, NotYours, NotHeld}
use Rattle.vault_model.specs.declared.effects.Effect.TheVariants as effects
use Rattle.vault_model.specs.Changes.{with_check_out, with_hold, with_items}
use Rattle.vault_model.specs.Step.{Outcome, placed, at_path, designer_of, asked, chained, ◌>>=◌, show, check_out, hold, usable, is_owned_by, extend, refuse_if}
use Rattle.question_laws.proofs.Lines.{follows, done_is, some_of}
use Rattle.question_laws.specs.Questions.{IsAnswered, IsShown, CheckOutIsShownAsAsked, HoldIsShownAsAsked, ExtensionIsShownAsAsked}

-- one step down: the child is a place whose path has one name more
child_path : (tree : List Place) (at next : ℕ) (name : List ℕ) → Rises tree → child tree at name ≡ Some next → path_of tree next ≡ path_of tree at ++ name ∷ []
child_path tree at next name rises e = by_position (position (is_child at name) tree) refl e
  where
    by_position : (o : Option ℕ) → position (is_child at name) tree ≡ o → option_map (λ k. k + 1) o ≡ Some next → path_of tree next ≡ path_of tree at ++ name ∷ []
    by_position None none h = cc
    by_position (Some i) found h =
        let x = slice_index_or tree i no_place in
        let first = position-Some (is_child at name) tree i no_place found in
        let there : slice_get tree i ≡ Some x = slice_get-get_or tree i no_place first.0 in
        let both = and_both (x.parent == at) (bytes_eq x.name name) first.1 in
        let parent : x.parent ≡ at = eq_from x.parent at both.0 in
        let named : x.name ≡ name = (bytes_eq-Decides x.name name).0 both.1 in
        let number : i + 1 ≡ next = cc in
        let is : suc i ≡ next = omega (arith, number) in
        subst (λ p. path_of tree p ≡ path_of tree at ++ name ∷ []) is
        (path_of-step tree i x rises there ∙ ap (λ p. path_of tree p ++ x.name ∷ []) parent ∙ ap (λ n. path_of tree at ++ n ∷ []) named)

-- the place at the end of a path has that path
path_below : (tree : List Place) (at place : ℕ) (names : List (List ℕ)) → Rises tree → find_below tree at names ≡ Some place → path_of tree place ≡ path_of tree at ++ names
path_below tree at place [] rises e = let same : at ≡ place = cc in subst (λ p. path_of tree p ≡ path_of tree at ++ []) same (sym (append-nil (path_of tree at)))
path_below tree at place (name ∷ names) rises e = by_child (child tree at name) refl e (λ next h. path_below tree next place names rises h)
  where
    by_child : (o : Option ℕ) → child tree at name ≡ o → option_and_then (λ next. find_below tree next names) o ≡ Some place
        → ((next : ℕ) → find_below tree next names ≡ Some place → path_of tree place ≡ path_of tree next ++ names) → path_of tree place ≡ path_of tree at ++ name ∷ names
    by_child None none h rest = cc
    by_child (Some next) found h rest =
        rest next h
        ∙ ap (λ way. way ++ names) (child_path tree at next name rises found)
        ∙ append_assoc (path_of tree at) (name ∷ []) names

pub found_path : (tree : List Place) (path : List (List ℕ)) (place : ℕ) → Rises tree → find_place tree path ≡ Some place → path_of tree place ≡ path
found_path tree path place rises e = path_below tree 0 place path rises e

-- items that were asked for by paths are told by these paths
asked_items : (tree : List Place) (wanted : List PathItem) (items : List Item) → Rises tree → placed tree wanted ≡ Some items → map (at_path tree) items ≡ wanted
asked_items tree [] items rises e = let same : [] ≡ items = cc in subst (λ xs. map (at_path tree) xs ≡ []) same refl
asked_items tree (w ∷ wanted) items rises e = by_place (find_place tree w.path) refl e (placed tree wanted) refl (λ others k. asked_items tree wanted others rises k)
  where
    by_place : (o : Option ℕ) → find_place tree w.path ≡ o → option_and_then (λ place. option_map (λ others. record { intent = w.intent; place = place } ∷ others) (placed tree wanted)) o ≡ Some items
        → (p : Option (List Item)) → placed tree wanted ≡ p → ((others : List Item) → placed tree wanted ≡ Some others → map (at_path tree) others ≡ wanted) → map (at_path tree) items ≡ w ∷ wanted
    by_place None there h p k rest = cc
    by_place (Some place) there h None k rest = let h2 = rw k at h in cc
    by_place (Some place) there h (Some others) k rest =
        let h2 = rw k at h in
        let same : record { intent = w.intent; place = place } ∷ others ≡ items = cc in
        subst (λ xs. map (at_path tree) xs ≡ w ∷ wanted) same
        (ap (λ path. record { intent = w.intent; path = path } ∷ map (at_path tree) others) (found_path tree w.path place rises there)
        ∙ ap (λ told. w ∷ told) (rest others k))

-- a claim that joins the line at its end, whose id no other has
module _ (c : Claim) where
  found_last : (line : List Claim) → All (λ (d : Claim). same_id d.id c.id ≡ false) line → claim_of (line ++ c ∷ []) c.id ≡ Some c
  found_last [] fresh = ap (λ b. cond b (Some c) None) (same_id_itself c.id)
  found_last (x ∷ xs) fresh =
      ap (λ b. cond b (Some x) (claim_of (xs ++ c ∷ []) c.id)) (All-head (λ (d : Claim). same_id d.id c.id ≡ false) x xs fresh)
      ∙ found_last xs (All-tail (λ (d : Claim). same_id d.id c.id ≡ false) x xs fresh)

  all_before : (line : List Claim) → All (λ (d : Claim). same_id d.id c.id ≡ false) line → before (line ++ c ∷ []) c.id ≡ line
  all_before [] fresh =
      take_while-cons (λ (d : Claim). not (same_id d.id c.id)) c []
      ∙ ap (λ b. cond (not b) (c ∷ take_while (λ (d : Claim). not (same_id d.id c.id)) []) []) (same_id_itself c.id)
  all_before (x ∷ xs) fresh =
      take_while-cons (λ (d : Claim). not (same_id d.id c.id)) x (xs ++ c ∷ [])
      ∙ ap (λ b. cond (not b) (x ∷ before (xs ++ c ∷ []) c.id) []) (All-head (λ (d : Claim). same_id d.id c.id ≡ false) x xs fresh)
      ∙ ap (λ rest. x ∷ rest) (all_before xs (All-tail (λ (d : Claim). same_id d.id c.id ≡ false) x xs fresh))

  stands_last : (tree : List Place) (line : List Claim) → All (λ (d : Claim). same_id d.id c.id ≡ false) line → standing_of tree (line ++ c ∷ []) c.id ≡ Some (standing_behind tree line c.items)
  stands_last tree line fresh =
      ap (λ found. option_map (λ (d : Claim). standing_behind tree (before (line ++ c ∷ []) c.id) d.items) found) (found_last line fresh)
      ∙ ap (λ ahead. Some (standing_behind tree ahead c.items)) (all_before line fresh)

-- what is shown of a claim that is found
shown_as : (v : Vault) (who : Session) (id : ClaimId) (claim : Claim) (standing : Standing) (owner : List ℕ) → claim_of v.line id ≡ Some claim → standing_of v.tree v.line id ≡ Some standing → designer_of v.sessions claim.owner ≡ Some owner
    → IsAnswered v who (commands.Show id) (replies.Shown (record { id = id; designer = owner; standing = standing; items = map (at_path v.tree) claim.items }))
unfolding show chained
shown_as v who id claim standing owner found stands owned =
    ap (λ c. ok_or c NoClaim >>= λ one. ok_or (standing_of v.tree v.line id) NoClaim >>= λ s. ok_or (designer_of v.sessions one.owner) NoClaim >>= λ d. answer one s d) found
    ∙ ap (λ s. ok_or s NoClaim >>= λ one. ok_or (designer_of v.sessions claim.owner) NoClaim >>= λ d. answer claim one d) stands
    ∙ ap (λ d. ok_or d NoClaim >>= λ one. answer claim standing one) owned
  where
    answer : Claim → Standing → List ℕ → Result Outcome Refusal
    answer c s d = Ok (record { reply = replies.Shown (record { id = id; designer = d; standing = s; items = map (at_path v.tree) c.items }); vault = v; effect = None })

abbrev IsAsked : Vault → List PathItem → (List Item → Outcome) → Outcome → Type 0
IsAsked v wanted outcome done = (items : List Item) × (placed v.tree wanted ≡ Some items) × (done ≡ outcome items)

abbrev checked_out : Vault → List ℕ → List Item → Outcome
checked_out v designer items = record {
  reply = asked (Long (v.last_long + 1)) (standing_behind v.tree v.line items);
  vault = with_check_out v (v.last_long + 1) designer items;
  effect = Some (effects.Asked (v.last_long + 1) designer items);
}

abbrev taken : Vault → ℕ → List Item → Outcome
taken v session items = record {
  reply = asked (Short (v.last_short + 1)) (standing_behind v.tree v.line items);
  vault = with_hold v (v.last_short + 1) session items;
  effect = None;
}

check_out_is : (v : Vault) (designer : List ℕ) (wanted : List PathItem) → IfOk (check_out v designer wanted) (IsAsked v wanted (checked_out v designer))
unfolding check_out
check_out_is v designer wanted = let P = IsAsked v wanted (checked_out v designer) in
    follows P _ _ (λ _ _. follows P _ _ (λ items found. follows P _ _ (λ _ _. (items, some_of _ _ items found, refl))))

hold_is : (v : Vault) (session : Session) (wanted : List PathItem) → IfOk (hold v session wanted) (IsAsked v wanted (taken v session.number))
unfolding hold
hold_is v session wanted = let P = IsAsked v wanted (taken v session.number) in
    follows P _ _ (λ _ _. follows P _ _ (λ items found. follows P _ _ (λ _ _. (items, some_of _ _ items found, refl))))

-- a new claim in a vault that is well formed, as it is shown
joined_shown : (v w : Vault) (who : Session) (c : Claim) (owner : List ℕ) (wanted : List PathItem) → IsVault v → placed v.tree wanted ≡ Some c.items
    → ((id : ClaimId) → IsGiven v.last_long v.last_short id → same_id id c.id ≡ false)
    → w.tree ≡ v.tree → w.line ≡ v.line ++ c ∷ [] → designer_of w.sessions c.owner ≡ Some owner
    → IsShown w who c.id owner wanted (asked c.id (standing_behind v.tree v.line c.items))
joined_shown v w who c owner wanted kept found new tree line owned =
    let fresh = All-weaker (IsClaim v.tree v.sessions v.last_long v.last_short) (λ (d : Claim). same_id d.id c.id ≡ false) (λ d h. new d.id h.given) v.line kept.claims in
    let there : claim_of w.line c.id ≡ Some c = ap (λ l. claim_of l c.id) line ∙ found_last c v.line fresh in
    let stands : standing_of w.tree w.line c.id ≡ Some (standing_behind v.tree v.line c.items) = ap (λ t. standing_of t w.line c.id) tree ∙ ap (λ l. standing_of v.tree l c.id) line ∙ stands_last c v.tree v.line fresh in (
      record { id = c.id; designer = owner; standing = standing_behind v.tree v.line c.items; items = map (at_path w.tree) c.items },
      shown_as w who c.id c (standing_behind v.tree v.line c.items) owner there stands owned,
      refl,
      refl,
      ap (λ t. map (at_path t) c.items) tree ∙ asked_items v.tree wanted c.items kept.tree.parents found,
      refl,
    )

new_long : (v : Vault) (id : ClaimId) → IsGiven v.last_long v.last_short id → same_id id (Long (v.last_long + 1)) ≡ false
new_long v (Long n) h = let high = h.1 in grind (arith, nat_tests)
new_long v (Short n) h = refl

new_short : (v : Vault) (id : ClaimId) → IsGiven v.last_long v.last_short id → same_id id (Short (v.last_short + 1)) ≡ false
new_short v (Long n) h = refl
new_short v (Short n) h = let high = h.1 in grind (arith, nat_tests)

pub check_out_is_shown : CheckOutIsShownAsAsked
check_out_is_shown v session who wanted done kept e =
    by_items (done_is (IsAsked v wanted (checked_out v session.name)) (check_out v session.name wanted) done (check_out_is v session.name wanted) e)
  where
    by_items : IsAsked v wanted (checked_out v session.name) done → IsShown done.vault who (Long (v.last_long + 1)) session.name wanted done.reply
    by_items (items, found, is) =
        subst (λ (o : Outcome). IsShown o.vault who (Long (v.last_long + 1)) session.name wanted o.reply) (sym is)
        (joined_shown v (with_check_out v (v.last_long + 1) session.name items) who (new_check_out (v.last_long + 1) session.name items) session.name wanted kept found (new_long v) refl refl refl)

pub hold_is_shown : HoldIsShownAsAsked
hold_is_shown v session who wanted done kept stands e =
    by_items (done_is (IsAsked v wanted (taken v session.number)) (hold v session wanted) done (hold_is v session wanted) e)
  where
    by_items : IsAsked v wanted (taken v session.number) done → IsShown done.vault who (Short (v.last_short + 1)) session.name wanted done.reply
    by_items (items, found, is) =
        subst (λ (o : Outcome). IsShown o.vault who (Short (v.last_short + 1)) session.name wanted o.reply) (sym is)
        (joined_shown v (with_hold v (v.last_short + 1) session.number items) who (new_hold (v.last_short + 1) session.number items) session.name wanted kept found (new_short v) refl refl
        (ap (option_map (λ (s : Session). s.name)) stands))

-- An extended claim.

abbrev IsExtended : Vault → Session → ClaimId → List PathItem → Outcome → Type 0
IsExtended v session id wanted done =
    (claim : Claim) × (items : List Item) × (claim_of v.line id ≡ Some claim) × (placed v.tree wanted ≡ Some items)
    × (done.vault ≡ with_items v id (claim.items ++ items)) × (done.reply ≡ replies.Held id)

used_found : (v : Vault) (session : Session) (id : ClaimId) (claim : Claim) → usable v session id ≡ Ok claim → claim_of v.line id ≡ Some claim
unfolding usable chained
used_found v session id claim e = by_claim (claim_of v.line id) e
  where
    by_claim : (o : Option Claim) → (ok_or o NoClaim >>= λ c. refuse_if (not (is_owned_by session c.owner)) NotYours >>= λ _. refuse_if (not (is_held v.tree v.line c)) NotHeld >>= λ _. Ok c) ≡ Ok claim → o ≡ Some claim
    by_claim None h = cc
    by_claim (Some c) h = by_tests (is_owned_by session c.owner) (is_held v.tree v.line c) h
      where
        by_tests : (a b : Bool) → (refuse_if (not a) NotYours >>= λ _. refuse_if (not b) NotHeld >>= λ _. Ok c) ≡ Ok claim → Some c ≡ Some claim
        by_tests true true k = cc
        by_tests true false k = cc
        by_tests false b k = cc

extend_is : (v : Vault) (session : Session) (id : ClaimId) (wanted : List PathItem) → IfOk (extend v session id wanted) (IsExtended v session id wanted)
unfolding extend
extend_is v session id wanted = let P = IsExtended v session id wanted in
    follows P _ _ (λ claim used. follows P _ _ (λ _ _. follows P _ _ (λ items found. follows P _ _ (λ _ _.
    (claim, items, used_found v session id claim used, some_of _ _ items found, refl, refl)))))

-- what was shown of a claim
abbrev WasShown : Vault → ClaimId → ShownClaim (List PathItem) → Outcome → Type 0
WasShown v id former outcome =
    (claim : Claim) × (owner : List ℕ) × (standing : Standing) × (claim_of v.line id ≡ Some claim) × (designer_of v.sessions claim.owner ≡ Some owner)
    × (outcome.reply ≡ replies.Shown (record { id = id; designer = owner; standing = standing; items = map (at_path v.tree) claim.items }))

show_is : (v : Vault) (id : ClaimId) (former : ShownClaim (List PathItem)) → IfOk (show v id) (WasShown v id former)
unfolding show
show_is v id former = let P = WasShown v id former in
    follows P _ _ (λ claim found. follows P _ _ (λ standing _. follows P _ _ (λ owner owned.
    (claim, owner, standing, some_of _ _ claim found, some_of _ _ owner owned, refl))))

map_both : (f : Item → PathItem) (xs ys : List Item) → map f (xs ++ ys) ≡ map f xs ++ map f ys
map_both f [] ys = refl
map_both f (x ∷ xs) ys = ap (λ l. f x ∷ l) (map_both f xs ys)

-- a claim that is put first, as it is shown
first_shown : (v : Vault) (who : Session) (id : ClaimId) (claim : Claim) (items : List Item) (owner : List ℕ) → claim_of v.line id ≡ Some claim → designer_of v.sessions claim.owner ≡ Some owner
    → IsShown (with_items v id items) who id owner (map (at_path v.tree) items) (replies.Held id)
first_shown v who id claim items owner found owned = (
  record { id = id; designer = owner; standing = standings.Held; items = map (at_path v.tree) items },
  shown_as (with_items v id items) who id first standings.Held owner there stands owned,
  refl,
  refl,
  refl,
  refl,
)
  where
    first : Claim
    first = record claim { items = items }

    line : put_first v.line id items ≡ first ∷ without v.line id
    line = ap (λ o. option_map_or (λ (c : Claim). record c { items = items } ∷ without v.line id) o v.line) found

    own : same_id claim.id id ≡ true
    own = subst (λ i. same_id claim.id i ≡ true) (own_id v.line id claim found) (same_id_itself claim.id)

    there : claim_of (put_first v.line id items) id ≡ Some first
    there = ap (λ l. claim_of l id) line ∙ ap (λ b. cond b (Some first) (claim_of (without v.line id) id)) own

    none : before (put_first v.line id items) id ≡ []
    none = ap (λ l. before l id) line ∙ take_while-cons (λ (d : Claim). not (same_id d.id id)) first (without v.line id)
        ∙ ap (λ b. cond (not b) (first ∷ take_while (λ (d : Claim). not (same_id d.id id)) (without v.line id)) []) own

    stands : standing_of v.tree (put_first v.line id items) id ≡ Some standings.Held
    stands = ap (λ c. option_map (λ (d : Claim). standing_behind v.tree (before (put_first v.line id items) id) d.items) c) there
        ∙ ap (λ ahead. Some (standing_behind v.tree ahead items)) none

pub extension_is_shown : ExtensionIsShownAsAsked
extension_is_shown v session who id wanted former done kept asked_before e =
    by_both (done_is (IsExtended v session id wanted) (extend v session id wanted) done (extend_is v session id wanted) e)
    (done_is (WasShown v id former) (show v id) (record { reply = replies.Shown former; vault = v; effect = None }) (show_is v id former) asked_before)
  where
    by_both : IsExtended v session id wanted done → WasShown v id former (record { reply = replies.Shown former; vault = v; effect = None }) → IsShown done.vault who id former.designer (former.items ++ wanted) done.reply
    by_both (claim, items, found, placed_at, vault, reply) (same, owner, standing, found_same, owned, told) =
        let one : Some claim ≡ Some same = sym found ∙ found_same in
        let is : claim ≡ same = cc in
        let owned_by : designer_of v.sessions claim.owner ≡ Some owner = subst (λ (c : Claim). designer_of v.sessions c.owner ≡ Some owner) (sym is) owned in
        let names : owner ≡ former.designer = cc in
        let told_items : map (at_path v.tree) same.items ≡ former.items = cc in
        let all : map (at_path v.tree) (claim.items ++ items) ≡ former.items ++ wanted =
        map_both (at_path v.tree) claim.items items
        ∙ ap (λ l. l ++ map (at_path v.tree) items) (ap (λ (c : Claim). map (at_path v.tree) c.items) is ∙ told_items)
        ∙ ap (λ l. former.items ++ l) (asked_items v.tree wanted items kept.tree.parents placed_at) in
        subst (λ (w : Vault). IsShown w who id former.designer (former.items ++ wanted) done.reply) (sym vault)
        (subst (λ (r : Reply). IsShown (with_items v id (claim.items ++ items)) who id former.designer (former.items ++ wanted) r) (sym reply)
        (subst (λ (l : List PathItem). IsShown (with_items v id (claim.items ++ items)) who id former.designer l (replies.Held id)) all
        (subst (λ (n : List ℕ). IsShown (with_items v id (claim.items ++ items)) who id n (map (at_path v.tree) (claim.items ++ items)) (replies.Held id)) names
        (first_shown v who id claim (claim.items ++ items) owner found owned_by))))
