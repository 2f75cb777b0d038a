-- The parts of a vault are fit, and they are of one vault.
use Rattle.std.specs.Prelude.{◌≡◌, ◌≢◌, ℕ, ◌+◌, ◌≤◌, ◌==◌, nat_lt, Bool, true, false, List, [], ◌∷◌, ◌++◌, map, filter, sum_by, Option, None, Some, All, refl}
use Rattle.std.specs.List.{AllByRecursion}
use Rattle.std.proofs.Common.{arith, ap, sym, subst, cond, ◌∙◌, append_assoc}
use Rattle.std.proofs.lemmas.Bool.Decides.{nat_tests}
use Rattle.std.proofs.lemmas.List.Elements.{All-head, All-tail, All-weaker, All-map}
use Rattle.vault_state.specs.declared.place.Place.{Place}
use Rattle.vault_state.specs.declared.claims.Claim.{Claim}
use Rattle.vault_state.specs.declared.claims.Standing.TheVariants.{Held as Stands}
use Rattle.vault_state.specs.declared.ids.ClaimId.{ClaimId}
use Rattle.vault_state.specs.declared.ids.ClaimId.TheVariants.{Long}
use Rattle.vault_state.specs.declared.session.Session.{Session}
use Rattle.vault_state.specs.Limits.{most_weight}
use Rattle.vault_state.specs.Claims.{same_id, claim_of, blocker, standing_of, standing_by}
use Rattle.vault_state.specs.Shelf.{Draft, weight, drafts_weight}
use Rattle.vault_state.specs.Drafts.{SavedDraft, comes_before, drafts_of, saved_weight, IsOrdered}
use Rattle.vault_state.specs.Vault.{Vault, IsVault, IsClaim, IsDraft, AreDrafts, AreThere}
use Rattle.vault_model.specs.After.{IsDurable}
use Rattle.vault_model.proofs.Kept.{All-kept}
use Rattle.vault_state.proofs.Overlaps.{eq_from}
use Rattle.vault_state.proofs.Stays.{own_id}
use Rattle.long_locks.specs.LongClaims.{AreLongClaims}
use Rattle.check_outs.specs.CheckOuts.{IsRising}
use Rattle.check_outs.specs.Typed.{saved}
use Rattle.check_outs.specs.Parts.{Parts, drafts_under, parts_of, IsVaultOf, MayBe, MayHave, EachMayHave, AreFit, number_in, opened_all}
use Rattle.vault_state.proofs.OneDrafts.{one_drafts, no_drafts_of}
use Rattle.check_outs.proofs.PutIn.{IsLong, AreLong, weight_opened}
use Rattle.vault_checkout.proofs.PartsMade.{found_in, stands_in, all_long, match_of, drafts_made, drafts_given}

-- drafts in order rise in each check-out
rising_of : (n : ℕ) (ds : List SavedDraft) → IsOrdered ds → IsRising (drafts_of ds n)
unfolding IsOrdered
rising_of n [] ordered = tt
rising_of n (x ∷ ds) ordered = by_test (x.claim == n) refl (rising_of n ds ordered.1)
  where
    places : (y : SavedDraft) → (x.claim == n) ≡ true → (y.claim == n) ≡ true → comes_before x y ≡ true → nat_lt x.draft.place y.draft.place ≡ true
    places y e f before =
        let one : x.claim ≡ n = eq_from x.claim n e in
        let two : y.claim ≡ n = eq_from y.claim n f in
        let no_less : nat_lt x.claim y.claim ≡ false = grind (arith, nat_tests, one, two) in
        let same : (x.claim == y.claim) ≡ true = let both : x.claim ≡ y.claim = one ∙ sym two in grind (arith, nat_tests, both) in
        rw (no_less, same) at before

    ahead : (ys : List SavedDraft) → (x.claim == n) ≡ true → AllByRecursion (λ y. comes_before x y ≡ true) ys → AllByRecursion (λ (y : Draft). nat_lt x.draft.place y.place ≡ true) (drafts_of ys n)
    ahead [] e all = tt
    ahead (y ∷ ys) e all = by_own (y.claim == n) refl (ahead ys e all.1)
      where
        by_own : (b : Bool) → (y.claim == n) ≡ b → AllByRecursion (λ (z : Draft). nat_lt x.draft.place z.place ≡ true) (drafts_of ys n)
            → AllByRecursion (λ (z : Draft). nat_lt x.draft.place z.place ≡ true) (map (λ (z : SavedDraft). z.draft) (cond b (y ∷ filter (λ (z : SavedDraft). z.claim == n) ys) (filter (λ (z : SavedDraft). z.claim == n) ys)))
        by_own true f rest = (places y e f all.0, rest)
        by_own false f rest = rest

    by_test : (b : Bool) → (x.claim == n) ≡ b → IsRising (drafts_of ds n) → IsRising (map (λ (z : SavedDraft). z.draft) (cond b (x ∷ filter (λ (z : SavedDraft). z.claim == n) ds) (filter (λ (z : SavedDraft). z.claim == n) ds)))
    by_test true e rest = (ahead ds e ordered.0, rest)
    by_test false e rest = rest

-- a check-out that has drafts is granted
some_held : (tree : List Place) (line : List Claim) (n : ℕ) (ds : List SavedDraft) → All (IsDraft tree line) ds → drafts_of ds n ≢ [] → standing_of tree line (Long n) ≡ Some Stands
some_held tree line n [] all some = absurd (some refl)
some_held tree line n (x ∷ ds) all some = by_test (x.claim == n) refl some (some_held tree line n ds (All-tail (IsDraft tree line) x ds all))
  where
    by_test : (b : Bool) → (x.claim == n) ≡ b → map (λ (z : SavedDraft). z.draft) (cond b (x ∷ filter (λ (z : SavedDraft). z.claim == n) ds) (filter (λ (z : SavedDraft). z.claim == n) ds)) ≢ []
        → (drafts_of ds n ≢ [] → standing_of tree line (Long n) ≡ Some Stands) → standing_of tree line (Long n) ≡ Some Stands
    by_test true e h rest = subst (λ k. standing_of tree line (Long k) ≡ Some Stands) (eq_from x.claim n e) (All-head (IsDraft tree line) x ds all).held
    by_test false e h rest = rest h

none_blocks : (o : Option ClaimId) → standing_by o ≡ Stands → o ≡ None
none_blocks None e = refl
none_blocks (Some id) e = cc

-- functions that agree on a line agree on a claim of it
same_at : (f g : Claim → List Draft) (line : List Claim) (id : ClaimId) (c : Claim) → claim_of line id ≡ Some c → map f line ≡ map g line → f c ≡ g c
same_at f g [] id c found same = cc
same_at f g (x ∷ line) id c found same = by_test (same_id x.id id) found (same_at f g line id c)
  where
    by_test : (b : Bool) → cond b (Some x) (claim_of line id) ≡ Some c → (claim_of line id ≡ Some c → map f line ≡ map g line → f c ≡ g c) → f c ≡ g c
    by_test true e rest = let here : x ≡ c = cc in let heads : f x ≡ g x = cc in subst (λ d. f d ≡ g d) here heads
    by_test false e rest = let tails : map f line ≡ map g line = cc in rest e tails

all_held : (tree : List Place) (line : List Claim) (ds : List SavedDraft) → AreDrafts tree line ds → All (λ (x : SavedDraft). standing_of tree line (Long x.claim) ≡ Some Stands) ds
all_held tree line ds are = All-weaker (IsDraft tree line) (λ (x : SavedDraft). standing_of tree line (Long x.claim) ≡ Some Stands) (λ x is. is.held) ds are.each

-- the drafts of each claim determine those of the line
pub one_of : (tree : List Place) (line : List Claim) (ds es : List SavedDraft) → AreDrafts tree line ds → AreDrafts tree line es → map (λ (c : Claim). drafts_under ds c.id) line ≡ map (λ (c : Claim). drafts_under es c.id) line → ds ≡ es
one_of tree line ds es are_ds are_es same = one_drafts ds es are_ds.ordered are_es.ordered (λ n. by_claim n (claim_of line (Long n)) refl)
  where
    by_claim : (n : ℕ) (o : Option Claim) → claim_of line (Long n) ≡ o → drafts_of ds n ≡ drafts_of es n
    by_claim n None none = no_drafts_of tree line ds n none (all_held tree line ds are_ds) ∙ sym (no_drafts_of tree line es n none (all_held tree line es are_es))
    by_claim n (Some c) found =
        subst (λ id. drafts_under ds id ≡ drafts_under es id) (own_id line (Long n) c found)
        (same_at (λ (d : Claim). drafts_under ds d.id) (λ (d : Claim). drafts_under es d.id) line (Long n) c found same)

module _ (v : Vault) (kept : IsVault v) (lasting : IsDurable v) where
  no_sessions : v.sessions ≡ []
  no_sessions = ap (λ (u : Vault). u.sessions) (sym lasting)

  no_short : v.last_short ≡ 0
  no_short = ap (λ (u : Vault). u.last_short) (sym lasting)

  pub long_claims : AreLongClaims v.tree v.last_long v.line
  long_claims = record {
    few = kept.few_claims;
    each = subst (λ n. All (IsClaim v.tree [] v.last_long n) v.line) no_short (subst (λ (s : List Session). All (IsClaim v.tree s v.last_long v.last_short) v.line) no_sessions kept.claims);
    apart = kept.apart;
  }

  long : AreLong v.line
  long = all_long v.tree v.last_long v.line long_claims

  module _ (before : List Claim) (c : Claim) (more : List Claim) (is : v.line ≡ before ++ c ∷ more) (is_long : IsLong c) where
    found : claim_of v.line (Long (number_in c.id)) ≡ Some c
    found = subst (λ id. claim_of v.line id ≡ Some c) is_long (found_in v.line before c more kept.apart is)

    may_be : (x : SavedDraft) → IsDraft v.tree v.line x → (x.claim == number_in c.id) ≡ true → MayBe v.tree c.items x.draft
    may_be x draft same = record {
      there = draft.there;
      part = draft.part;
      changed = draft.changed c (subst (λ k. claim_of v.line (Long k) ≡ Some c) (sym (eq_from x.claim (number_in c.id) same)) found);
      short = draft.short;
    }

    held : drafts_of v.drafts (number_in c.id) ≢ [] → blocker v.tree before c.items ≡ None
    held some =
        let at : standing_of v.tree v.line (Long (number_in c.id)) ≡ Some (standing_by (blocker v.tree before c.items)) = subst (λ id. standing_of v.tree v.line id ≡ Some (standing_by (blocker v.tree before c.items))) is_long (stands_in v.tree v.line before c more kept.apart is) in
        let stands = some_held v.tree v.line (number_in c.id) v.drafts kept.drafts.each some in
        let same : standing_by (blocker v.tree before c.items) ≡ Stands = cc in
        none_blocks (blocker v.tree before c.items) same

    may_have_own : MayHave v.tree before c.items (drafts_of v.drafts (number_in c.id))
    may_have_own = record {
      few = kept.drafts.few (number_in c.id);
      rising = rising_of (number_in c.id) v.drafts kept.drafts.ordered;
      each = All-map (MayBe v.tree c.items) (λ (x : SavedDraft). x.draft) (filter (λ (x : SavedDraft). x.claim == number_in c.id) v.drafts)
          (All-kept (IsDraft v.tree v.line) (λ (x : SavedDraft). MayBe v.tree c.items x.draft) (λ (x : SavedDraft). x.claim == number_in c.id) v.drafts may_be kept.drafts.each);
      held = held;
    }

    may_have : MayHave v.tree before c.items (drafts_under v.drafts c.id)
    may_have = subst (MayHave v.tree before c.items) (ap (drafts_under v.drafts) (sym is_long)) may_have_own

  each_may : (before claims : List Claim) → v.line ≡ before ++ claims → All IsLong claims → EachMayHave v.tree before claims (map (λ (c : Claim). drafts_under v.drafts c.id) claims)
  each_may before [] is all = tt
  each_may before (c ∷ claims) is all = (may_have before c claims is (All-head IsLong c claims all), each_may (before ++ c ∷ []) claims (is ∙ sym (append_assoc before (c ∷ []) claims)) (All-tail IsLong c claims all))

  all_may : EachMayHave v.tree [] v.line (map (λ (c : Claim). drafts_under v.drafts c.id) v.line)
  all_may = each_may [] v.line refl long.each

  weighs : saved_weight v.drafts ≡ sum_by drafts_weight (map (λ (c : Claim). drafts_under v.drafts c.id) v.line)
  weighs =
      ap saved_weight (one_of v.tree v.line v.drafts (saved (opened_all {A = Unit {0}} v.line (map (λ (c : Claim). drafts_under v.drafts c.id) v.line))) kept.drafts
      (drafts_made (Unit {0}) v.tree v.line (map (λ (c : Claim). drafts_under v.drafts c.id) v.line) long all_may)
      (sym (drafts_given (Unit {0}) v.tree v.line (map (λ (c : Claim). drafts_under v.drafts c.id) v.line) long all_may)))
      ∙ weight_opened (Unit {0}) v.line (map (λ (c : Claim). drafts_under v.drafts c.id) v.line) (match_of v.tree [] v.line (map (λ (c : Claim). drafts_under v.drafts c.id) v.line) all_may)

  pub is_fit : AreFit v.tree v.shelf v.line (map (λ (c : Claim). drafts_under v.drafts c.id) v.line)
  is_fit = record {
    there = All-weaker (IsClaim v.tree v.sessions v.last_long v.last_short) (λ (c : Claim). AreThere v.tree c.items) (λ c claim. claim.there) v.line kept.claims;
    versions = kept.versions;
    may_have = all_may;
    light = subst (λ n. weight v.shelf + n ≤ most_weight) weighs kept.light;
  }

-- the parts of a vault are a line's and fit
pub parts_long : (parts : Parts) (v : Vault) → IsVaultOf parts v → AreLongClaims parts.tree parts.last_long parts.claims
parts_long parts v is = subst (λ (p : Parts). AreLongClaims p.tree p.last_long p.claims) is.parts_are (long_claims v is.well_formed is.durable)

pub parts_fit : (parts : Parts) (v : Vault) → IsVaultOf parts v → AreFit parts.tree parts.shelf parts.claims parts.drafts
parts_fit parts v is = subst (λ (p : Parts). AreFit p.tree p.shelf p.claims p.drafts) is.parts_are (is_fit v is.well_formed is.durable)

-- and of one vault
pub one_vault : (parts : Parts) (v w : Vault) → IsVaultOf parts v → IsVaultOf parts w → v ≡ w
one_vault parts v w is_v is_w = λ i. record {
  tree = trees i;
  shelf = ap (λ (p : Parts). p.shelf) same i;
  line = lines i;
  drafts = drafts_are i;
  sessions = (no_sessions v is_v.well_formed is_v.durable ∙ sym (no_sessions w is_w.well_formed is_w.durable)) i;
  last_session = (ap (λ (u : Vault). u.last_session) (sym is_v.durable) ∙ ap (λ (u : Vault). u.last_session) is_w.durable) i;
  last_long = ap (λ (p : Parts). p.last_long) same i;
  last_short = (no_short v is_v.well_formed is_v.durable ∙ sym (no_short w is_w.well_formed is_w.durable)) i;
  door_count = (ap (λ (u : Vault). u.door_count) (sym is_v.durable) ∙ ap (λ (u : Vault). u.door_count) is_w.durable) i;
}
  where
    same : parts_of v ≡ parts_of w
    same = is_v.parts_are ∙ sym is_w.parts_are

    trees : v.tree ≡ w.tree
    trees = ap (λ (p : Parts). p.tree) same

    lines : v.line ≡ w.line
    lines = ap (λ (p : Parts). p.claims) same

    drafts_are : v.drafts ≡ w.drafts
    drafts_are =
        one_of v.tree v.line v.drafts w.drafts is_v.well_formed.drafts
        (subst (λ (l : List Claim). AreDrafts v.tree l w.drafts) (sym lines) (subst (λ (t : List Place). AreDrafts t w.line w.drafts) (sym trees) is_w.well_formed.drafts))
        (ap (λ (p : Parts). p.drafts) same ∙ ap (λ (l : List Claim). map (λ (c : Claim). drafts_under w.drafts c.id) l) (sym lines))
