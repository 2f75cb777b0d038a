-- The vault that fit parts make.
use Rattle.std.specs.Prelude.{◌≡◌, ◌≢◌, ℕ, ◌≤◌, ◌==◌, nat_lt, Bool, true, false, List, [], ◌∷◌, ◌++◌, length, map, None, Some, All, refl}
use Rattle.std.specs.List.{AllByRecursion, IsDistinct}
use Rattle.std.specs.Option.{option_map_or}
use Rattle.std.proofs.Common.{arith, ap, sym, subst, cond, ◌∙◌, append_assoc}
use Rattle.std.proofs.lemmas.Bool.Decides.{nat_tests}
use Rattle.std.proofs.lemmas.List.Elements.{All-nil, All-cons, All-head, All-tail, All-weaker, All-append}
use Rattle.vault_state.specs.declared.place.Place.{Place}
use Rattle.vault_state.specs.declared.claims.Claim.{Claim}
use Rattle.vault_state.specs.declared.claims.Standing.TheVariants.{Held as Stands}
use Rattle.vault_state.specs.declared.ids.ClaimId.{ClaimId}
use Rattle.vault_state.specs.declared.ids.ClaimId.TheVariants.{Long, Short}
use Rattle.vault_state.specs.Limits.{most_drafts, last_number}
use Rattle.vault_state.specs.Tree.{IsTree}
use Rattle.vault_state.specs.Claims.{same_id, is_short, claim_of, change_set, blocker, standing_of, standing_by, without_short}
use Rattle.vault_state.specs.Shelf.{Draft}
use Rattle.vault_state.specs.Drafts.{SavedDraft, comes_before, IsOrdered, saved_by}
use Rattle.vault_state.specs.Vault.{Vault, IsClaim, IsGiven, IsDraft, AreDrafts}
use Rattle.vault_model.proofs.Kept.{kept_new}
use Rattle.vault_state.proofs.Stays.{ids}
use Rattle.long_locks.specs.LongClaims.{AreLongClaims}
use Rattle.check_outs.specs.CheckOuts.{IsRising}
use Rattle.check_outs.specs.declared.any.AnyCheckOut.{AnyCheckOut}
use Rattle.check_outs.specs.Typed.{number_of, is_granted, own_drafts, marked, saved, check_out_of, is_held_standing, is_holding, granted, drafts_at, IsAscending, Agrees}
use Rattle.check_outs.specs.Parts.{drafts_under, IsVaultOf, MayBe, MayHave, EachMayHave, AreFit, number_in, opened, opened_all}
use Rattle.check_outs.proofs.AllDrafts.{drafts_are}
use Rattle.vault_checkout.proofs.Agreement.{found_there, stands_there, agrees_granted}
use Rattle.check_outs.proofs.PutIn.{Match, EachOf, IsLong, AreLong, All_opened, ascending_opened, found_opened, drafts_opened, weight_opened}

-- where claims have different ids, none before one has its
id_behind : (P : ClaimId → Type 0) (before : List Claim) (c : Claim) (more : List Claim) → AllByRecursion P (ids (before ++ c ∷ more)) → P c.id
id_behind P [] c more all = all.0
id_behind P (b ∷ before) c more all = id_behind P before c more all.1

pub none_before : (before : List Claim) (c : Claim) (more : List Claim) → IsDistinct same_id (ids (before ++ c ∷ more)) → claim_of before c.id ≡ None
unfolding IsDistinct
none_before [] c more distinct = refl
none_before (b ∷ before) c more distinct = rw (id_behind (λ k. same_id b.id k ≡ false) before c more distinct.0) (none_before before c more distinct.1)

-- a claim of a line, with those before it
pub found_in : (line before : List Claim) (c : Claim) (more : List Claim) → IsDistinct same_id (ids line) → line ≡ before ++ c ∷ more → claim_of line c.id ≡ Some c
found_in line before c more distinct is =
    ap (λ l. claim_of l c.id) is ∙ found_there before c more (none_before before c more (subst (λ l. IsDistinct same_id (ids l)) is distinct))

pub stands_in : (tree : List Place) (line before : List Claim) (c : Claim) (more : List Claim) → IsDistinct same_id (ids line) → line ≡ before ++ c ∷ more → standing_of tree line c.id ≡ Some (standing_by (blocker tree before c.items))
stands_in tree line before c more distinct is =
    ap (λ l. standing_of tree l c.id) is ∙ stands_there tree before c more (none_before before c more (subst (λ l. IsDistinct same_id (ids l)) is distinct))

-- what a claim of a line and its drafts keep
pub record IsGood (tree : List Place) (line : List Claim) (c : Claim) (own : List Draft) : Type 0 where
  pub drafts : All (IsDraft tree line) (marked (number_in c.id) own)
  pub held : own ≢ [] → is_holding tree line (number_in c.id) ≡ true
  pub few : length own ≤ most_drafts
  pub rising : IsRising own

module _ (tree : List Place) (line : List Claim) (distinct : IsDistinct same_id (ids line)) where
  module _ (before : List Claim) (c : Claim) (more : List Claim) (is : line ≡ before ++ c ∷ more) (long : IsLong c) where
    found : claim_of line (Long (number_in c.id)) ≡ Some c
    found = subst (λ id. claim_of line id ≡ Some c) long (found_in line before c more distinct is)

    stands : blocker tree before c.items ≡ None → standing_of tree line (Long (number_in c.id)) ≡ Some Stands
    stands none = subst (λ id. standing_of tree line id ≡ Some Stands) long (stands_in tree line before c more distinct is ∙ ap (λ o. Some (standing_by o)) none)

    draft_is : (x : Draft) → blocker tree before c.items ≡ None → MayBe tree c.items x → IsDraft tree line (saved_by (number_in c.id) x)
    draft_is x none may = record {
      held = stands none;
      changed = λ d got. changed d (sym found ∙ got);
      there = may.there;
      part = may.part;
      short = may.short;
    }
      where
        changed : (d : Claim) → Some c ≡ Some d → change_set tree d.items x.place ≡ true
        changed d e = let same : c ≡ d = cc in subst (λ (k : Claim). change_set tree k.items x.place ≡ true) same may.changed

    drafts_are_good : (own : List Draft) → blocker tree before c.items ≡ None → All (MayBe tree c.items) own → All (IsDraft tree line) (marked (number_in c.id) own)
    drafts_are_good [] none all = All-nil (IsDraft tree line)
    drafts_are_good (x ∷ own) none all =
        All-cons (IsDraft tree line) (saved_by (number_in c.id) x) (marked (number_in c.id) own) (draft_is x none (All-head (MayBe tree c.items) x own all))
        (drafts_are_good own none (All-tail (MayBe tree c.items) x own all))

    good_one : (own : List Draft) → MayHave tree before c.items own → IsGood tree line c own
    good_one own may = record { drafts = by_some own may; held = λ some. ap is_held_standing (stands (may.held some)); few = may.few; rising = may.rising }
      where
        by_some : (ds : List Draft) → MayHave tree before c.items ds → All (IsDraft tree line) (marked (number_in c.id) ds)
        by_some [] m = All-nil (IsDraft tree line)
        by_some (x ∷ ds) m = drafts_are_good (x ∷ ds) (m.held (λ e. cc)) m.each

  pub each_good : (before claims : List Claim) (drafts : List (List Draft)) → line ≡ before ++ claims → All IsLong claims → EachMayHave tree before claims drafts → EachOf (IsGood tree line) claims drafts
  each_good before [] [] is long may = tt
  each_good before [] (own ∷ drafts) is long may = absurd may
  each_good before (c ∷ claims) [] is long may = absurd may
  each_good before (c ∷ claims) (own ∷ drafts) is long may = (
    good_one before c claims is (All-head IsLong c claims long) own may.0,
    each_good (before ++ c ∷ []) claims drafts (is ∙ sym (append_assoc before (c ∷ []) claims)) (All-tail IsLong c claims long) may.1,
  )

pub match_of : (tree : List Place) (before claims : List Claim) (drafts : List (List Draft)) → EachMayHave tree before claims drafts → Match claims drafts
match_of tree before [] [] may = tt
match_of tree before [] (own ∷ drafts) may = absurd may
match_of tree before (c ∷ claims) [] may = absurd may
match_of tree before (c ∷ claims) (own ∷ drafts) may = match_of tree (before ++ c ∷ []) claims drafts may.1

pub all_rising : (tree : List Place) (before claims : List Claim) (drafts : List (List Draft)) → EachMayHave tree before claims drafts → All IsRising drafts
all_rising tree before [] [] may = All-nil IsRising
all_rising tree before [] (own ∷ drafts) may = absurd may
all_rising tree before (c ∷ claims) [] may = absurd may
all_rising tree before (c ∷ claims) (own ∷ drafts) may = All-cons IsRising own drafts may.0.rising (all_rising tree (before ++ c ∷ []) claims drafts may.1)

-- long claims are long
long_id : (last_long : ℕ) (id : ClaimId) → IsGiven last_long 0 id → id ≡ Long (number_in id)
long_id last_long (Long n) given = refl
long_id last_long (Short n) given = absurd (omega (arith, given.0, given.1))

pub all_long : (tree : List Place) (last_long : ℕ) (claims : List Claim) → AreLongClaims tree last_long claims → AreLong claims
all_long tree last_long claims are = record { each = All-weaker (IsClaim tree [] last_long 0) IsLong (λ c is. long_id last_long c.id is.given) claims are.each; apart = are.apart }

none_short : (claims : List Claim) → All IsLong claims → without_short claims ≡ claims
none_short [] all = refl
none_short (c ∷ claims) all =
    let here : is_short c.id ≡ false = ap is_short (All-head IsLong c claims all) in
    rw here (ap (λ cs. c ∷ cs) (none_short claims (All-tail IsLong c claims all)))

map_same : {Y : Type 0} (f g : Claim → Y) (claims : List Claim) → All (λ (c : Claim). f c ≡ g c) claims → map f claims ≡ map g claims
map_same f g [] all = refl
map_same f g (c ∷ claims) all = ap (λ y. y ∷ map f claims) (All-head (λ (c : Claim). f c ≡ g c) c claims all) ∙ ap (λ ys. g c ∷ ys) (map_same f g claims (All-tail (λ (c : Claim). f c ≡ g c) c claims all))

module _ {A : Type 0} where
  -- drafts of check-outs by rising number
  ordered_saved : (xs : List (AnyCheckOut A)) → IsAscending xs → All (λ x. IsRising (own_drafts x)) xs → IsOrdered (saved xs)
  unfolding IsAscending IsOrdered
  ordered_saved [] ascending rising = tt
  ordered_saved (x ∷ xs) ascending rising = behind (own_drafts x) (All-head (λ x. IsRising (own_drafts x)) x xs rising) (ordered_saved xs ascending.1 (All-tail (λ x. IsRising (own_drafts x)) x xs rising))
    where
      of_one : (m : ℕ) (d : Draft) (own : List Draft) → nat_lt (number_of x) m ≡ true → AllByRecursion (λ y. comes_before (saved_by (number_of x) d) y ≡ true) (marked m own)
      of_one m d [] less = tt
      of_one m d (y ∷ own) less = (rw less refl, of_one m d own less)

      joined_to : (P : SavedDraft → Type 0) (ys zs : List SavedDraft) → AllByRecursion P ys → AllByRecursion P zs → AllByRecursion P (ys ++ zs)
      joined_to P [] zs first others = others
      joined_to P (y ∷ ys) zs first others = (first.0, joined_to P ys zs first.1 others)

      later : (d : Draft) (ys : List (AnyCheckOut A)) → AllByRecursion (λ y. nat_lt (number_of x) (number_of y) ≡ true) ys → AllByRecursion (λ y. comes_before (saved_by (number_of x) d) y ≡ true) (saved ys)
      later d [] all = tt
      later d (y ∷ ys) all = joined_to (λ y. comes_before (saved_by (number_of x) d) y ≡ true) (marked (number_of y) (own_drafts y)) (saved ys) (of_one (number_of y) d (own_drafts y) all.0) (later d ys all.1)

      same_claim : (d y : Draft) → nat_lt d.place y.place ≡ true → comes_before (saved_by (number_of x) d) (saved_by (number_of x) y) ≡ true
      same_claim d y less =
          let no_less : nat_lt (number_of x) (number_of x) ≡ false = grind (arith, nat_tests) in
          let same : (number_of x == number_of x) ≡ true = grind (arith, nat_tests) in
          rw (no_less, same, less) refl

      ahead : (d : Draft) (own : List Draft) → AllByRecursion (λ (y : Draft). nat_lt d.place y.place ≡ true) own → AllByRecursion (λ y. comes_before (saved_by (number_of x) d) y ≡ true) (marked (number_of x) own)
      ahead d [] all = tt
      ahead d (y ∷ own) all = (same_claim d y all.0, ahead d own all.1)

      behind : (own : List Draft) → IsRising own → IsOrdered (saved xs) → IsOrdered (marked (number_of x) own ++ saved xs)
      behind [] r rest = rest
      behind (d ∷ own) r rest = (joined_to (λ y. comes_before (saved_by (number_of x) d) y ≡ true) (marked (number_of x) own) (saved xs) (ahead d own r.0) (later d xs ascending.0), behind own r.1 rest)

  all_saved : (P : SavedDraft → Type 0) (xs : List (AnyCheckOut A)) → All (λ x. All P (marked (number_of x) (own_drafts x))) xs → All P (saved xs)
  all_saved P [] all = All-nil P
  all_saved P (x ∷ xs) all = All-append P (marked (number_of x) (own_drafts x)) (saved xs) (All-head (λ x. All P (marked (number_of x) (own_drafts x))) x xs all) (all_saved P xs (All-tail (λ x. All P (marked (number_of x) (own_drafts x))) x xs all))

  few_at : (xs : List (AnyCheckOut A)) (n : ℕ) → All (λ x. length (own_drafts x) ≤ most_drafts) xs → length (drafts_at xs n) ≤ most_drafts
  few_at [] n all = omega arith
  few_at (x ∷ xs) n all = by_test (number_of x == n) (few_at xs n (All-tail (λ x. length (own_drafts x) ≤ most_drafts) x xs all))
    where
      by_test : (b : Bool) → length (drafts_at xs n) ≤ most_drafts → length (option_map_or own_drafts (cond b (Some x) (check_out_of xs n)) []) ≤ most_drafts
      by_test true rest = All-head (λ x. length (own_drafts x) ≤ most_drafts) x xs all
      by_test false rest = rest

module _ (A : Type 0) where
  module _ (tree : List Place) (claims : List Claim) (drafts : List (List Draft)) (long : AreLong claims) (may : EachMayHave tree [] claims drafts) where
    good : EachOf (IsGood tree claims) claims drafts
    good = each_good tree claims long.apart [] claims drafts refl long.each may

    match : Match claims drafts
    match = match_of tree [] claims drafts may

    abbrev all_drafts : List SavedDraft
    all_drafts = saved (opened_all {A = A} claims drafts)

    pub drafts_made : AreDrafts tree claims (saved (opened_all {A = A} claims drafts))
    drafts_made = record {
      each = all_saved (IsDraft tree claims) (opened_all claims drafts)
          (All_opened A (λ x. All (IsDraft tree claims) (marked (number_of x) (own_drafts x))) claims drafts (IsGood tree claims) (λ c own is. drafted (number_in c.id) own is.drafts) good);
      few = λ n. subst (λ (l : List Draft). length l ≤ most_drafts) (sym (drafts_are n (opened_all claims drafts) (ascending_opened A claims drafts long)))
          (few_at (opened_all claims drafts) n (All_opened A (λ x. length (own_drafts x) ≤ most_drafts) claims drafts (IsGood tree claims) (λ c own is. few_own (number_in c.id) own is.few) good));
      ordered = ordered_saved (opened_all claims drafts) (ascending_opened A claims drafts long) (All_opened A (λ x. IsRising (own_drafts x)) claims drafts (IsGood tree claims) (λ c own is. rising_own (number_in c.id) own is.rising) good);
    }
      where
        drafted : (n : ℕ) (own : List Draft) → All (IsDraft tree claims) (marked n own) → All (IsDraft tree claims) (marked (number_of (opened {A = A} n own)) (own_drafts (opened {A = A} n own)))
        drafted n [] all = all
        drafted n (d ∷ own) all = all

        few_own : (n : ℕ) (own : List Draft) → length own ≤ most_drafts → length (own_drafts (opened {A = A} n own)) ≤ most_drafts
        few_own n [] few = few
        few_own n (d ∷ own) few = few

        rising_own : (n : ℕ) (own : List Draft) → IsRising own → IsRising (own_drafts (opened {A = A} n own))
        rising_own n [] rising = rising
        rising_own n (d ∷ own) rising = rising

    -- each claim has the drafts that were given
    pub drafts_given : map (λ (c : Claim). drafts_under (saved (opened_all {A = A} claims drafts)) c.id) claims ≡ drafts
    drafts_given =
        map_same (λ (c : Claim). drafts_under (saved (opened_all {A = A} claims drafts)) c.id) (λ (c : Claim). drafts_at (opened_all {A = A} claims drafts) (number_in c.id)) claims
        (All-weaker IsLong (λ (c : Claim). drafts_under (saved (opened_all {A = A} claims drafts)) c.id ≡ drafts_at (opened_all {A = A} claims drafts) (number_in c.id))
        (λ c is. ap (drafts_under (saved (opened_all {A = A} claims drafts))) is ∙ drafts_are (number_in c.id) (opened_all claims drafts) (ascending_opened A claims drafts long)) claims long.each)
        ∙ drafts_opened A claims drafts match long

    -- the types of the check-outs, once those whose claims are granted are, too
    pub agrees_made : Agrees tree claims (map (granted tree claims) (opened_all {A = A} claims drafts))
    agrees_made =
        agrees_granted tree claims (opened_all claims drafts) (ascending_opened A claims drafts long) (λ n. found_opened A n claims drafts match long)
        (All_opened A (λ x. is_granted x ≡ true → is_holding tree claims (number_of x) ≡ true) claims drafts (IsGood tree claims) (λ c own is. still (number_in c.id) own is.held) good)
      where
        still : (n : ℕ) (own : List Draft) → (own ≢ [] → is_holding tree claims n ≡ true) → is_granted (opened {A = A} n own) ≡ true → is_holding tree claims (number_of (opened {A = A} n own)) ≡ true
        still n [] held typed = cc
        still n (d ∷ own) held typed = held (λ e. cc)

  module _ (tree : List Place) (shelf : List (List (List ℕ))) (last_long : ℕ) (claims : List Claim) (drafts : List (List Draft)) (is_tree : IsTree tree) (line : AreLongClaims tree last_long claims) (fit : AreFit tree shelf claims drafts) where
    abbrev pub made : Vault
    made = record { tree = tree; shelf = shelf; line = claims; drafts = saved (opened_all {A = A} claims drafts); sessions = []; last_session = 0; last_long = last_long; last_short = 0; door_count = 0 }

    pub vault_made : last_long ≤ last_number → IsVaultOf (record { tree = tree; shelf = shelf; last_long = last_long; claims = claims; drafts = drafts }) made
    vault_made below = record {
      well_formed = record {
        tree = is_tree;
        few_claims = line.few;
        claims = line.each;
        apart = line.apart;
        sessions = kept_new.sessions;
        numbers = record { session = kept_new.numbers.session; long = below; short = kept_new.numbers.short };
        versions = fit.versions;
        drafts = drafts_made tree claims drafts (all_long tree last_long claims line) fit.may_have;
        light = rw (weight_opened A claims drafts (match_of tree [] claims drafts fit.may_have)) fit.light;
      };
      durable = λ i. record { tree = tree; shelf = shelf; line = none_short claims (all_long tree last_long claims line).each i; drafts = saved (opened_all {A = A} claims drafts); sessions = []; last_session = 0; last_long = last_long; last_short = 0; door_count = 0 };
      parts_are = λ i. record { tree = tree; shelf = shelf; last_long = last_long; claims = claims; drafts = drafts_given tree claims drafts (all_long tree last_long claims line) fit.may_have i };
    }
