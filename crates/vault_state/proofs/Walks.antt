-- Walks from a place up to the library.
use Rattle.std.specs.Prelude.{◌≡◌, ℕ, zero, suc, ◌<◌, ◌≤◌, Bool, true, false, ◌||◌, ◌==◌, List, Option, None, Some, refl}
use Rattle.std.proofs.Common.{sym, ap, ◌∙◌, arith}
use Rattle.std.specs.Option.{option_map_or}
use Rattle.vault_state.specs.declared.place.Place.{Place}
use Rattle.vault_state.specs.Tree.{parent_of, is_under_within, is_under, depth_within, depth}

-- each parent has a smaller number
abbrev pub Rises : List Place → Type 0
Rises tree = (p parent : ℕ) → parent_of tree p ≡ Some parent → parent < p

pub or_false : (b : Bool) → (b || false) ≡ b
or_false true = refl
or_false false = refl

-- two functions that agree on what an option has
pub same_at : {X Y : Type 0} (o : Option X) (f g : X → Y) (d : Y) → ((x : X) → o ≡ Some x → f x ≡ g x) → option_map_or f o d ≡ option_map_or g o d
same_at None f g d h = refl
same_at (Some x) f g d h = h x refl

-- any two bounds that are enough give the same
pub under_enough : (n m : ℕ) (tree : List Place) (p q : ℕ) → Rises tree → p ≤ n → p ≤ m → is_under_within n tree p q ≡ is_under_within m tree p q
under_enough zero zero tree p q rises hn hm = refl
under_enough zero (suc m) tree p q rises hn hm =
    let e : p ≡ 0 = omega arith in rw e (sym (or_false _))
under_enough (suc n) zero tree p q rises hn hm =
    let e : p ≡ 0 = omega arith in rw e (or_false _)
under_enough (suc n) (suc m) tree p q rises hn hm =
    ap (λ b. (p == q) || b) (same_at (parent_of tree p) _ _ false (λ r e. let lower : r < p = rises p r e in under_enough n m tree r q rises (omega arith) (omega arith)))

pub is_under-step : (tree : List Place) (p q r : ℕ) → Rises tree → parent_of tree p ≡ Some r → is_under tree p q ≡ ((p == q) || is_under tree r q)
is_under-step tree zero q r rises e = cc
is_under-step tree (suc p) q r rises e =
    let lower : r < suc p = rises (suc p) r e in
    ap (λ o. (suc p == q) || option_map_or (λ t. is_under_within p tree t q) o false) e ∙ ap (λ b. (suc p == q) || b) (under_enough p r tree r q rises (omega arith) (omega arith))

pub is_under-top : (tree : List Place) (p q : ℕ) → parent_of tree p ≡ None → is_under tree p q ≡ (p == q)
is_under-top tree zero q e = refl
is_under-top tree (suc p) q e = ap (λ o. (suc p == q) || option_map_or (λ t. is_under_within p tree t q) o false) e ∙ or_false _

pub depth_enough : (n m : ℕ) (tree : List Place) (p : ℕ) → Rises tree → p ≤ n → p ≤ m → depth_within n tree p ≡ depth_within m tree p
depth_enough zero zero tree p rises hn hm = refl
depth_enough zero (suc m) tree p rises hn hm = let e : p ≡ 0 = omega arith in rw e refl
depth_enough (suc n) zero tree p rises hn hm = let e : p ≡ 0 = omega arith in rw e refl
depth_enough (suc n) (suc m) tree p rises hn hm = same_at (parent_of tree p) _ _ 0 (λ r e. let lower : r < p = rises p r e in ap suc (depth_enough n m tree r rises (omega arith) (omega arith)))

pub depth-step : (tree : List Place) (p r : ℕ) → Rises tree → parent_of tree p ≡ Some r → depth tree p ≡ suc (depth tree r)
depth-step tree zero r rises e = cc
depth-step tree (suc p) r rises e =
    let lower : r < suc p = rises (suc p) r e in
    ap (λ o. option_map_or (λ t. suc (depth_within p tree t)) o 0) e ∙ ap suc (depth_enough p r tree r rises (omega arith) (omega arith))

pub depth-top : (tree : List Place) (p : ℕ) → parent_of tree p ≡ None → depth tree p ≡ 0
depth-top tree zero e = refl
depth-top tree (suc p) e = ap (λ o. option_map_or (λ t. suc (depth_within p tree t)) o 0) e

pub is_under-next : (tree : List Place) (p q r : ℕ) → Rises tree → Some r ≡ parent_of tree p → (p == q) ≡ false → is_under tree r q ≡ is_under tree p q
is_under-next tree p q r rises e other = sym (is_under-step tree p q r rises (sym e) ∙ ap (λ b. b || is_under tree r q) other)

pub is_under-same : (tree : List Place) (p q : ℕ) → (p == q) ≡ true → is_under tree p q ≡ true
is_under-same tree zero q e = e
is_under-same tree (suc p) q e = ap (λ b. b || option_map_or (λ t. is_under_within p tree t q) (parent_of tree (suc p)) false) e
