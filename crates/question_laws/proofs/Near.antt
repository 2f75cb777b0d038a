-- Which claims are near a place.
use Rattle.std.specs.Prelude.{◌≡◌, ℕ, zero, suc, ◌≤◌, ◌⊎◌, Bool, true, false, List, [], ◌∷◌, length, map, filter, Some, IfSome, All, refl}
use Rattle.std.proofs.Common.{sym, subst, cond, arith, inl, inr}
use Rattle.std.specs.List.{list_any, Contains}
use Rattle.std.proofs.lemmas.List.Elements.{All-head, All-tail, All-weaker}
use Rattle.vault_state.specs.declared.place.Place.{Place}
use Rattle.vault_state.specs.declared.claims.Item.{Item}
use Rattle.vault_state.specs.declared.claims.Claim.{Claim}
use Rattle.vault_state.specs.declared.session.Session.{Session}
use Rattle.vault_state.specs.Tree.{is_under, find_place}
use Rattle.vault_state.specs.Claims.{look_set, meet, claims_at}
use Rattle.vault_state.specs.Vault.{Vault, IsClaim, AreThere}
use Rattle.vault_state.proofs.Walks.{Rises, is_under-same}
use Rattle.vault_state.proofs.Overlaps.{or_cases, or_left, or_right, eq_itself, meet_from, meet_to, comparable}
use Rattle.vault_state.proofs.Growth.{find_place_there}
use Rattle.vault_model.specs.declared.commands.Command.TheVariants as commands
use Rattle.vault_model.specs.declared.replies.Reply.TheVariants as replies
use Rattle.vault_model.specs.Step.{claims, chained}
use Rattle.question_laws.specs.Questions.{HasItemNear, AreNear, IsAnswered, ClaimsAreThoseNear}

-- some element passes a test
pub any_from : {X : Type 0} (test : X → Bool) (xs : List X) → list_any test xs ≡ true → (x : X) × Contains xs x × (test x ≡ true)
any_from test [] e = cc
any_from {X} test (x ∷ xs) e = by_first (any_from test xs) (or_cases (test x) (list_any test xs) e)
  where
    by_first : (list_any test xs ≡ true → (y : X) × Contains xs y × (test y ≡ true)) → (test x ≡ true) ⊎ (list_any test xs ≡ true) → (y : X) × Contains (x ∷ xs) y × (test y ≡ true)
    by_first rest (inl h) = (x, (0, omega arith, refl), h)
    by_first rest (inr h) = let found = rest h in (found.0, (suc found.1.0, (let inside = found.1.1 in omega (arith, inside)), found.1.2), found.2)

pub any_to : {X : Type 0} (test : X → Bool) (xs : List X) (x : X) → Contains xs x → test x ≡ true → list_any test xs ≡ true
any_to test [] x (k, inside, at) e = absurd (omega (arith, inside))
any_to test (y ∷ xs) x (zero, inside, at) e = or_left (test y) (list_any test xs) (subst (λ z. test z ≡ true) (sym at) e)
any_to test (y ∷ xs) x (suc k, inside, at) e = or_right (test y) (list_any test xs) (any_to test xs x (k, omega (arith, inside), at) e)

-- what holds of each holds of one of them
pub all_contains : {X : Type 0} (P : X → Type 0) (xs : List X) (x : X) → All P xs → Contains xs x → P x
all_contains P xs x all at = subst P at.2 (all at.0 x at.1)

module _ (tree : List Place) (place : ℕ) (rises : Rises tree) (within : place ≤ length tree) where
  -- the test by which the definition chooses
  abbrev test : Claim → Bool
  test c = meet tree (look_set tree c.items) (λ q. is_under tree q place)

  chosen_near : (c : Claim) → test c ≡ true → HasItemNear tree place c
  chosen_near c e =
      let met = meet_from (suc (length tree)) (look_set tree c.items) (λ q. is_under tree q place) e in
      let found = any_from (λ (item : Item). is_under tree met.0 item.place) c.items met.2 in
      (found.0, found.1, or_cases _ _ (comparable tree met.0 found.0.place place rises found.2 met.3))

  near_chosen : (c : Claim) → AreThere tree c.items → HasItemNear tree place c → test c ≡ true
  near_chosen c there (item, at, inl h) =
      let inside : item.place ≤ length tree = all_contains (λ (x : Item). x.place ≤ length tree) c.items item there at in
      meet_to (suc (length tree)) (look_set tree c.items) (λ q. is_under tree q place) item.place (omega (arith, inside))
      (any_to (λ (x : Item). is_under tree item.place x.place) c.items item at (is_under-same tree item.place item.place (eq_itself item.place))) h
  near_chosen c there (item, at, inr h) =
      meet_to (suc (length tree)) (look_set tree c.items) (λ q. is_under tree q place) place (omega (arith, within))
      (any_to (λ (x : Item). is_under tree place x.place) c.items item at h) (is_under-same tree place place (eq_itself place))

  all_near : (line : List Claim) → All (λ (c : Claim). AreThere tree c.items) line → AreNear tree place line (claims_at tree line place)
  all_near [] there = refl
  all_near (c ∷ line) there =
      by_test (test c) refl (all_near line (All-tail (λ (d : Claim). AreThere tree d.items) c line there))
    where
      by_test : (b : Bool) → test c ≡ b → AreNear tree place line (claims_at tree line place) → AreNear tree place (c ∷ line) (map (λ (d : Claim). d.id) (cond b (c ∷ filter test line) (filter test line)))
      by_test true e rest = inl (chosen_near c e, (claims_at tree line place, refl, rest))
      by_test false e rest = inr (λ near. let yes = near_chosen c (All-head (λ (d : Claim). AreThere tree d.items) c line there) near in cc, rest)

answered : (v : Vault) (session : Session) (path : List (List ℕ)) (place : ℕ) → find_place v.tree path ≡ Some place → IsAnswered v session (commands.Claims path) (replies.ClaimsAt (claims_at v.tree v.line place))
unfolding claims chained
answered v session path place e = rw e refl

pub claims_are_those_near : ClaimsAreThoseNear
claims_are_those_near v session path place kept e =
    let within : place ≤ length v.tree = subst (λ o. IfSome o (λ p. p ≤ length v.tree)) e (find_place_there v.tree path) in (
      claims_at v.tree v.line place,
      answered v session path place e,
      all_near v.tree place kept.tree.parents within v.line (All-weaker (IsClaim v.tree v.sessions v.last_long v.last_short) (λ (c : Claim). AreThere v.tree c.items) (λ c h. h.there) v.line kept.claims),
    )
