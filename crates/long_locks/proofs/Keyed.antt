-- Claims by their ids, as a list.
use Rattle.std.specs.Prelude.{◌≡◌, ℕ, zero, suc, ◌+◌, Bool, true, false, not, length, nat_lt, List, [], ◌∷◌, ◌++◌, take, drop, filter, insert, remove, Option, None, Some, is_some, slice_get, position, refl}
use Rattle.std.proofs.Common.{sym, ap, subst, ◌∙◌, cond, rules}
use Rattle.std.specs.Map.{keys_of, values_of, lookup, remove_entry}
use Rattle.std.specs.List.{IsDistinct, AllByRecursion, position_or_len}
use Rattle.std.specs.Option.{option_map, option_map_or}
use Rattle.std.proofs.lemmas.List.Elements.{All-cons, All-head, All-tail, All-append, All-take, All-drop, All-push, All-filter}
use Rattle.std.proofs.lemmas.Bool.Decides.{nat_tests}
use Rattle.indexmap.specs.IndexMap.{move_index, insert_entry}
use Rattle.indexmap.specs.Layout.{set_value_at}
use Rattle.indexmap.proofs.MapLemmas.{Found-position, remove_entry-first, some_index, insert_entry-first}
use Rattle.vault_state.specs.declared.claims.Item.{Item}
use Rattle.vault_state.specs.declared.claims.Claim.{Claim}
use Rattle.vault_state.specs.declared.ids.ClaimId.{ClaimId}
use Rattle.vault_state.specs.declared.ids.ClaimId.TheVariants.{Long, Short}
use Rattle.vault_state.specs.contracts.ids.ClaimIdPartialEq.TheImpl.{eq-value}
use Rattle.vault_state.specs.Claims.{same_id, claim_of, without, changed}
use Rattle.vault_state.proofs.Stays.{same_id_is}
use Rattle.long_locks.specs.Lines.{put_first}
use Rattle.long_locks.specs.Keyed.{AreKeyed}

abbrev Entry : Type 0
Entry = ClaimId × Claim

abbrev own : Entry → Type 0
own e = e.0 ≡ e.1.id

-- the claim at an index
pub value_at : (es : List Entry) (i : ℕ) → slice_get (values_of es) i ≡ option_map (λ (e : Entry). e.1) (slice_get es i)
value_at [] i = refl
value_at (e ∷ es) zero = refl
value_at (e ∷ es) (suc i) = value_at es i

keyed_at : (es : List Entry) (i : ℕ) (x : Entry) → AreKeyed es → slice_get es i ≡ Some x → own x
keyed_at [] i x keyed e = cc
keyed_at (y ∷ es) zero x keyed e = let same : y ≡ x = cc in subst own same (All-head own y es keyed)
keyed_at (y ∷ es) (suc i) x keyed e = keyed_at es i x (All-tail own y es keyed) e

pub keyed_removed : (es : List Entry) (i : ℕ) → AreKeyed es → AreKeyed (remove es i)
keyed_removed es i keyed = All-append own (take i es) (drop (suc i) es) (All-take own i es keyed) (All-drop own (suc i) es keyed)

pub keyed_pushed : (es : List Entry) (c : Claim) → AreKeyed es → AreKeyed (es ++ (c.id, c) ∷ [])
keyed_pushed es c keyed = All-push own es (c.id, c) keyed refl

pub values_pushed : (es : List Entry) (c : Claim) → values_of (es ++ (c.id, c) ∷ []) ≡ values_of es ++ c ∷ []
values_pushed [] c = refl
values_pushed (e ∷ es) c = ap (λ cs. e.1 ∷ cs) (values_pushed es c)

-- those that pass a test keep their keys, and are the claims that pass it
pub keyed_kept : (t : Claim → Bool) (es : List Entry) → AreKeyed es → AreKeyed (filter (λ (e : Entry). t e.1) es)
keyed_kept t es keyed = All-filter (λ (e : Entry). t e.1) own es keyed

pub values_kept : (t : Claim → Bool) (es : List Entry) → values_of (filter (λ (e : Entry). t e.1) es) ≡ filter t (values_of es)
values_kept t [] = refl
values_kept t (e ∷ es) = by_test (t e.1) (values_kept t es)
  where
    by_test : (b : Bool) → values_of (filter (λ (x : Entry). t x.1) es) ≡ filter t (values_of es)
        → values_of (cond b (e ∷ filter (λ (x : Entry). t x.1) es) (filter (λ (x : Entry). t x.1) es)) ≡ cond b (e.1 ∷ filter t (values_of es)) (filter t (values_of es))
    by_test true rest = ap (λ cs. e.1 ∷ cs) rest
    by_test false rest = rest

module _ (eq : ClaimId → ClaimId → Bool) (is : (a b : ClaimId) → eq a b ≡ same_id b a) where
  key_test : (id : ClaimId) (e : Entry) → own e → eq id e.0 ≡ same_id e.1.id id
  key_test id e keyed = is id e.0 ∙ ap (λ k. same_id k id) keyed

  -- a look-up finds the claim of the id
  pub found : (es : List Entry) (id : ClaimId) → AreKeyed es → lookup (eq id) es ≡ claim_of (values_of es) id
  found [] id keyed = refl
  found (e ∷ es) id keyed =
      let test = key_test id e (All-head own e es keyed) in
      let rest = found es id (All-tail own e es keyed) in
      (λ j. cond (test j) (Some e.1) (rest j))

  -- an id has the position of its claim
  pub key_position : (es : List Entry) (id : ClaimId) → AreKeyed es → position (eq id) (keys_of es) ≡ position (λ (c : Claim). same_id c.id id) (values_of es)
  key_position es id keyed =
      ap (λ n. cond (nat_lt n (length (keys_of es))) (Some n) None) (as_far es keyed)
      ∙ ap (λ n. cond (nat_lt (position_or_len (λ (c : Claim). same_id c.id id) (values_of es)) n) (Some (position_or_len (λ (c : Claim). same_id c.id id) (values_of es))) None) (as_long es)
    where
      as_long : (xs : List Entry) → length (keys_of xs) ≡ length (values_of xs)
      as_long [] = refl
      as_long (e ∷ xs) = ap suc (as_long xs)

      as_far : (xs : List Entry) → AreKeyed xs → position_or_len (eq id) (keys_of xs) ≡ position_or_len (λ (c : Claim). same_id c.id id) (values_of xs)
      as_far [] keyed = refl
      as_far (e ∷ xs) keyed =
          ap (λ b. cond (not b) (1 + position_or_len (eq id) (keys_of xs)) 0) (key_test id e (All-head own e xs keyed))
          ∙ ap (λ n. cond (not (same_id e.1.id id)) (1 + n) 0) (as_far xs (All-tail own e xs keyed))

  none_taken : (es : List Entry) (id : ClaimId) → AreKeyed es → lookup (eq id) es ≡ None → without (values_of es) id ≡ values_of es
  none_taken [] id keyed none = refl
  none_taken (e ∷ es) id keyed none = by_test (eq id e.0) refl none (none_taken es id (All-tail own e es keyed))
    where
      by_test : (b : Bool) → eq id e.0 ≡ b → cond b (Some e.1) (lookup (eq id) es) ≡ None → (lookup (eq id) es ≡ None → without (values_of es) id ≡ values_of es) → without (e.1 ∷ values_of es) id ≡ e.1 ∷ values_of es
      by_test true h k rest = cc
      by_test false h k rest = rw (sym (key_test id e (All-head own e es keyed)) ∙ h) (ap (λ cs. e.1 ∷ cs) (rest k))

  others_stay : (es : List Entry) (id : ClaimId) → AreKeyed es → AllByRecursion (λ k. eq id k ≡ false) (keys_of es) → without (values_of es) id ≡ values_of es
  others_stay [] id keyed all = refl
  others_stay (e ∷ es) id keyed all = rw (sym (key_test id e (All-head own e es keyed)) ∙ all.0) (ap (λ cs. e.1 ∷ cs) (others_stay es id (All-tail own e es keyed) all.1))

  taken : (es : List Entry) (id : ClaimId) → AreKeyed es → IsDistinct eq (keys_of es) → values_of (remove_entry (eq id) es) ≡ without (values_of es) id
  unfolding IsDistinct
  taken [] id keyed distinct = refl
  taken (e ∷ es) id keyed distinct = by_test (eq id e.0) refl (taken es id (All-tail own e es keyed) distinct.1)
    where
      here : eq id e.0 ≡ same_id e.1.id id
      here = key_test id e (All-head own e es keyed)

      by_test : (b : Bool) → eq id e.0 ≡ b → values_of (remove_entry (eq id) es) ≡ without (values_of es) id → values_of (cond b es (e ∷ remove_entry (eq id) es)) ≡ without (e.1 ∷ values_of es) id
      by_test true h rest =
          let same : e.0 ≡ id = same_id_is e.0 id (sym (is id e.0) ∙ h) in
          rw (sym here ∙ h) (sym (others_stay es id (All-tail own e es keyed) (subst (λ k. AllByRecursion (λ y. eq k y ≡ false) (keys_of es)) same distinct.0)))
      by_test false h rest = rw (sym here ∙ h) (ap (λ cs. e.1 ∷ cs) rest)

  module _ (es : List Entry) (id : ClaimId) (keyed : AreKeyed es) where
    -- where the id has no index, taking its claim out changes nothing
    pub none_removed : None ≡ position (eq id) (keys_of es) → without (values_of es) id ≡ values_of es
    none_removed none = by_lookup (lookup (eq id) es) refl (ap is_some none ∙ some_index (eq id) es)
      where
        by_lookup : (o : Option Claim) → lookup (eq id) es ≡ o → false ≡ is_some o → without (values_of es) id ≡ values_of es
        by_lookup None e h = none_taken es id keyed e
        by_lookup (Some c) e h = cc

    module _ (distinct : IsDistinct eq (keys_of es)) (i : ℕ) (at : Some i ≡ position (eq id) (keys_of es)) where
      pub one_removed : values_of (remove es i) ≡ without (values_of es) id
      one_removed = ap values_of (sym (remove_entry-first (eq id) es i (Found-position (eq id) es i (sym at)).first)) ∙ taken es id keyed distinct

      -- the entry there, which a move to the front puts before the others
      record Moved : Type 0 where
        pub key : ClaimId
        pub claim : Claim
        pub its : own (key, claim)
        pub is_of : claim_of (values_of es) id ≡ Some claim
        pub first : move_index es i 0 ≡ (key, claim) ∷ remove es i

      moved : Moved
      moved = by_entry (slice_get es i) refl
        where
          value : lookup (eq id) es ≡ option_map (λ (e : Entry). e.1) (slice_get es i)
          value = (Found-position (eq id) es i (sym at)).value ∙ value_at es i

          some : is_some (lookup (eq id) es) ≡ true
          some = sym (some_index (eq id) es) ∙ ap is_some (sym at)

          by_entry : (o : Option Entry) → slice_get es i ≡ o → Moved
          by_entry None e =
              let none : lookup (eq id) es ≡ None = value ∙ ap (option_map (λ (x : Entry). x.1)) e in
              let clash : true ≡ false = sym some ∙ ap is_some none in
              cc
          by_entry (Some x) e = record {
            key = x.0;
            claim = x.1;
            its = keyed_at es i x keyed e;
            is_of = sym (found es id keyed) ∙ value ∙ ap (option_map (λ (y : Entry). y.1)) e;
            first = ap (λ o. option_map_or (λ y. insert (remove es i) 0 y) o es) e;
          }

      module _ (fs : List Entry) (moves : fs ≡ move_index es i 0) (items : List Item) (w : Claim) (front : slice_get (values_of fs) 0 ≡ Some w) where
        front_is : fs ≡ (moved.key, moved.claim) ∷ remove es i
        front_is = moves ∙ moved.first

        same_claim : w ≡ moved.claim
        same_claim = let h : Some moved.claim ≡ Some w = sym (ap (λ gs. slice_get (values_of gs) 0) front_is) ∙ front in cc

        written : set_value_at fs 0 (record w { items = items }) ≡ (moved.key, record moved.claim { items = items }) ∷ remove es i
        written = ap (λ gs. set_value_at gs 0 (record w { items = items })) front_is ∙ ap (λ (c : Claim). (moved.key, record c { items = items }) ∷ remove es i) same_claim

        pub front_keyed : AreKeyed (set_value_at fs 0 (record w { items = items }))
        front_keyed = subst AreKeyed (sym written) (All-cons own (moved.key, record moved.claim { items = items }) (remove es i) moved.its (keyed_removed es i keyed))

        pub front_values : values_of (set_value_at fs 0 (record w { items = items })) ≡ put_first (values_of es) id items
        front_values =
            ap values_of written ∙ ap (λ cs. record moved.claim { items = items } ∷ cs) one_removed
            ∙ sym (ap (λ o. option_map_or (λ (c : Claim). record c { items = items } ∷ without (values_of es) id) o (values_of es)) moved.is_of)

  -- ---- a claim that changes in its place, and keeps its id

  module _ (f : Claim → Claim) (keeps : (c : Claim) → (f c).id ≡ c.id) where
    none_changed : (es : List Entry) (id : ClaimId) → AreKeyed es → lookup (eq id) es ≡ None → changed (values_of es) id f ≡ values_of es
    none_changed [] id keyed none = refl
    none_changed (e ∷ es) id keyed none = by_test (eq id e.0) refl none (none_changed es id (All-tail own e es keyed))
      where
        by_test : (b : Bool) → eq id e.0 ≡ b → cond b (Some e.1) (lookup (eq id) es) ≡ None → (lookup (eq id) es ≡ None → changed (values_of es) id f ≡ values_of es) → changed (e.1 ∷ values_of es) id f ≡ e.1 ∷ values_of es
        by_test true h k rest = cc
        by_test false h k rest = rw (sym (key_test id e (All-head own e es keyed)) ∙ h) (ap (λ cs. e.1 ∷ cs) (rest k))

    others_unchanged : (es : List Entry) (id : ClaimId) → AreKeyed es → AllByRecursion (λ k. eq id k ≡ false) (keys_of es) → changed (values_of es) id f ≡ values_of es
    others_unchanged [] id keyed all = refl
    others_unchanged (e ∷ es) id keyed all = rw (sym (key_test id e (All-head own e es keyed)) ∙ all.0) (ap (λ cs. e.1 ∷ cs) (others_unchanged es id (All-tail own e es keyed) all.1))

    turned : (es : List Entry) (id : ClaimId) (w : Claim) → AreKeyed es → IsDistinct eq (keys_of es) → lookup (eq id) es ≡ Some w → values_of (insert_entry eq es id (f w)) ≡ changed (values_of es) id f
    unfolding IsDistinct
    turned [] id w keyed distinct there = cc
    turned (e ∷ es) id w keyed distinct there = by_test (eq id e.0) refl there (turned es id w (All-tail own e es keyed) distinct.1)
      where
        here : eq id e.0 ≡ same_id e.1.id id
        here = key_test id e (All-head own e es keyed)

        by_test : (b : Bool) → eq id e.0 ≡ b → cond b (Some e.1) (lookup (eq id) es) ≡ Some w → (lookup (eq id) es ≡ Some w → values_of (insert_entry eq es id (f w)) ≡ changed (values_of es) id f)
            → values_of (cond b ((e.0, f w) ∷ es) (e ∷ insert_entry eq es id (f w))) ≡ changed (e.1 ∷ values_of es) id f
        by_test true h k rest =
            let same : e.1 ≡ w = cc in
            let key : e.0 ≡ id = same_id_is e.0 id (sym (is id e.0) ∙ h) in
            let others = others_unchanged es id (All-tail own e es keyed) (subst (λ j. AllByRecursion (λ y. eq j y ≡ false) (keys_of es)) key distinct.0) in
            rw (sym here ∙ h) (ap (λ (c : Claim). f c ∷ values_of es) (sym same) ∙ ap (λ cs. f e.1 ∷ cs) (sym others))
        by_test false h k rest = rw (sym here ∙ h) (ap (λ cs. e.1 ∷ cs) (rest k))

    turned_keyed : (es : List Entry) (id : ClaimId) (w : Claim) → AreKeyed es → lookup (eq id) es ≡ Some w → AreKeyed (insert_entry eq es id (f w))
    turned_keyed [] id w keyed there = cc
    turned_keyed (e ∷ es) id w keyed there = by_test (eq id e.0) there (turned_keyed es id w (All-tail own e es keyed))
      where
        by_test : (b : Bool) → cond b (Some e.1) (lookup (eq id) es) ≡ Some w → (lookup (eq id) es ≡ Some w → AreKeyed (insert_entry eq es id (f w))) → AreKeyed (cond b ((e.0, f w) ∷ es) (e ∷ insert_entry eq es id (f w)))
        by_test true k rest =
            let same : e.1 ≡ w = cc in
            All-cons own (e.0, f w) es (All-head own e es keyed ∙ ap (λ (c : Claim). c.id) same ∙ sym (keeps w)) (All-tail own e es keyed)
        by_test false k rest = All-cons own e (insert_entry eq es id (f w)) (All-head own e es keyed) (rest k)

    module _ (es : List Entry) (id : ClaimId) (keyed : AreKeyed es) where
      -- where the id has no index, nothing changes
      pub nothing_changed : None ≡ position (eq id) (keys_of es) → changed (values_of es) id f ≡ values_of es
      nothing_changed none = by_lookup (lookup (eq id) es) refl (ap is_some none ∙ some_index (eq id) es)
        where
          by_lookup : (o : Option Claim) → lookup (eq id) es ≡ o → false ≡ is_some o → changed (values_of es) id f ≡ values_of es
          by_lookup None e h = none_changed es id keyed e
          by_lookup (Some c) e h = cc

      module _ (distinct : IsDistinct eq (keys_of es)) (i : ℕ) (at : Some i ≡ position (eq id) (keys_of es)) (w : Claim) (here : slice_get (values_of es) i ≡ Some w) where
        its : lookup (eq id) es ≡ Some w
        its = (Found-position (eq id) es i (sym at)).value ∙ here

        set_there : set_value_at es i (f w) ≡ insert_entry eq es id (f w)
        set_there = sym (insert_entry-first eq id (f w) es i (Found-position (eq id) es i (sym at)).first)

        pub changed_values : values_of (set_value_at es i (f w)) ≡ changed (values_of es) id f
        changed_values = ap values_of set_there ∙ turned es id w keyed distinct its

        pub changed_keyed : AreKeyed (set_value_at es i (f w))
        changed_keyed = subst AreKeyed (sym set_there) (turned_keyed es id w keyed its)

-- two ids are equal where they are one
abbrev pub id_eq : ClaimId → ClaimId → Bool
id_eq = eq-value.it

pub id_eq_is : (a b : ClaimId) → id_eq a b ≡ same_id b a
id_eq_is (Long m) (Long n) = search (rules, nat_tests)
id_eq_is (Short m) (Short n) = search (rules, nat_tests)
id_eq_is (Long m) (Short n) = refl
id_eq_is (Short m) (Long n) = refl
