-- Which kinds stand at which depths.
use Rattle.std.specs.Prelude.{◌≡◌, ℕ, suc, ◌<◌, ◌≤◌, Bool, true, false, not, ◌||◌, ◌&&◌, ◌==◌, nat_le, nat_lt, if◌then◌else◌, List, refl}
use Rattle.std.proofs.Common.{arith}
use Rattle.std.proofs.lemmas.Bool.Decides.{nat_tests}
use Rattle.vault_state.specs.declared.place.Kind.{Kind}
use Rattle.vault_state.specs.declared.place.Kind.TheVariants.{Library, Project, Assembly, Part}
use Rattle.vault_state.specs.declared.place.Place.{Place}
use Rattle.vault_state.specs.Tree.{is_part_kind, is_between, may_stand, kind_at, kind_of, is_part, depth, may_have, kind_under, may_nest_under, IsTree}
use Rattle.vault_state.specs.Limits.{greatest_depth, part_depth}

-- an assembly between
between_bounds : (d : ℕ) → is_between d ≡ true → (part_depth ≤ d) × (d < greatest_depth)
between_bounds d e = by_test (nat_le part_depth d) refl e
  where
    by_test : (b : Bool) → nat_le part_depth d ≡ b → (b && nat_lt d greatest_depth) ≡ true → (part_depth ≤ d) × (d < greatest_depth)
    by_test true low high = (grind (arith, nat_tests, low), grind (arith, nat_tests, high))
    by_test false low high = cc

bounds_between : (d : ℕ) → part_depth ≤ d → d < greatest_depth → is_between d ≡ true
bounds_between d low high =
    let first : nat_le part_depth d ≡ true = grind (arith, nat_tests, low) in
    let second : nat_lt d greatest_depth ≡ true = grind (arith, nat_tests, high) in
    rw (first, second) refl

-- no kind stands deeper than the greatest depth
pub stands_shallow : (kind : Kind) (d : ℕ) → may_stand kind d ≡ true → d ≤ greatest_depth
stands_shallow Library d e = grind (arith, nat_tests, e)
stands_shallow Project d e = grind (arith, nat_tests, e)
stands_shallow Assembly d e = by_test (d == 2) refl e
  where
    by_test : (b : Bool) → (d == 2) ≡ b → (b || is_between d) ≡ true → d ≤ greatest_depth
    by_test true two h = grind (arith, nat_tests, two)
    by_test false two h = let bounds = between_bounds d h in omega (arith, bounds.1)
stands_shallow Part d e = by_test (is_between d) refl e
  where
    by_test : (b : Bool) → is_between d ≡ b → (b || (d == greatest_depth)) ≡ true → d ≤ greatest_depth
    by_test true between h = let bounds = between_bounds d between in omega (arith, bounds.1)
    by_test false between h = grind (arith, nat_tests, h)

-- and none but a part at the greatest depth
pub stands_above : (kind : Kind) (d : ℕ) → may_stand kind d ≡ true → is_part_kind kind ≡ false → d < greatest_depth
stands_above Library d e other = grind (arith, nat_tests, e)
stands_above Project d e other = grind (arith, nat_tests, e)
stands_above Assembly d e other = by_test (d == 2) refl e
  where
    by_test : (b : Bool) → (d == 2) ≡ b → (b || is_between d) ≡ true → d < greatest_depth
    by_test true two h = grind (arith, nat_tests, two)
    by_test false two h = let bounds = between_bounds d h in omega (arith, bounds.1)
stands_above Part d e other = cc

-- the kind that is made by default may stand there
pub kind_at_stands : (d : ℕ) → d < greatest_depth → may_stand (kind_at (suc d)) (suc d) ≡ true
kind_at_stands d below = by_tests (suc d == 1) (suc d == 2) refl refl
  where
    by_last : (b : Bool) → is_between (suc d) ≡ b → part_depth ≤ suc d → (b || (suc d == greatest_depth)) ≡ true
    by_last true between low = refl
    by_last false between low = by_bound (nat_lt (suc d) greatest_depth) refl
      where
        by_bound : (c : Bool) → nat_lt (suc d) greatest_depth ≡ c → (suc d == greatest_depth) ≡ true
        by_bound true high = let yes = bounds_between (suc d) low (grind (arith, nat_tests, high)) in cc
        by_bound false high = grind (arith, nat_tests, high, below)

    by_tests : (a b : Bool) → (suc d == 1) ≡ a → (suc d == 2) ≡ b → may_stand (if a then Project else if b then Assembly else Part) (suc d) ≡ true
    by_tests true b one two = one
    by_tests false true one two = rw two refl
    by_tests false false one two = by_last (is_between (suc d)) refl (grind (arith, nat_tests, one, two))

-- an assembly that may be asked for may stand there
pub between_stands : (d : ℕ) → is_between d ≡ true → may_stand Assembly d ≡ true
between_stands d between = by_test (d == 2)
  where
    by_test : (b : Bool) → (b || is_between d) ≡ true
    by_test true = refl
    by_test false = between

-- no assembly stands above the second depth, and no part above the third
pub assembly_deep : (d : ℕ) → may_stand Assembly d ≡ true → 2 ≤ d
assembly_deep d e = by_test (d == 2) refl e
  where
    by_test : (b : Bool) → (d == 2) ≡ b → (b || is_between d) ≡ true → 2 ≤ d
    by_test true two h = grind (arith, nat_tests, two)
    by_test false two h = let bounds = between_bounds d h in omega (arith, bounds.0)

pub part_deep : (d : ℕ) → may_stand Part d ≡ true → 3 ≤ d
part_deep d e = by_test (is_between d) refl e
  where
    by_test : (b : Bool) → is_between d ≡ b → (b || (d == greatest_depth)) ≡ true → 3 ≤ d
    by_test true between h = let bounds = between_bounds d between in omega (arith, bounds.0)
    by_test false between h = grind (arith, nat_tests, h)

-- at each depth may stand at most one kind that is a part's, and at most one that isn't
pub one_kind : (k l : Kind) (d : ℕ) → may_stand k d ≡ true → may_stand l d ≡ true → is_part_kind k ≡ is_part_kind l → k ≡ l
one_kind Library Library d a b same = refl
one_kind Project Project d a b same = refl
one_kind Assembly Assembly d a b same = refl
one_kind Part Part d a b same = refl
one_kind Library Project d a b same = absurd (grind (arith, nat_tests, a, b))
one_kind Project Library d a b same = absurd (grind (arith, nat_tests, a, b))
one_kind Library Assembly d a b same = let deep = assembly_deep d b in absurd (grind (arith, nat_tests, a, deep))
one_kind Assembly Library d a b same = let deep = assembly_deep d a in absurd (grind (arith, nat_tests, b, deep))
one_kind Project Assembly d a b same = let deep = assembly_deep d b in absurd (grind (arith, nat_tests, a, deep))
one_kind Assembly Project d a b same = let deep = assembly_deep d a in absurd (grind (arith, nat_tests, b, deep))
one_kind Part Library d a b same = cc
one_kind Part Project d a b same = cc
one_kind Part Assembly d a b same = cc
one_kind Library Part d a b same = cc
one_kind Project Part d a b same = cc
one_kind Assembly Part d a b same = cc

-- a place that is no part may have what is made under it by default
pub may_have_made : (tree : List Place) (parent : ℕ) → IsTree tree → is_part tree parent ≡ false → may_have tree parent (kind_under tree parent) ≡ true
may_have_made tree parent is other =
    let stands = kind_at_stands (depth tree parent) (stands_above (kind_of tree parent) (depth tree parent) (is.kinds parent) other) in
    rw (other, stands) refl

-- and it may have an assembly, where one may be asked for
pub may_have_nested : (tree : List Place) (parent : ℕ) → may_nest_under tree parent ≡ true → is_part tree parent ≡ false → may_have tree parent Assembly ≡ true
may_have_nested tree parent between other =
    let stands = between_stands (suc (depth tree parent)) between in
    rw (other, stands) refl

-- what a place may have may stand there, and the place is no part
pub had : (tree : List Place) (parent : ℕ) (kind : Kind) → may_have tree parent kind ≡ true → (is_part tree parent ≡ false) × (may_stand kind (suc (depth tree parent)) ≡ true)
had tree parent kind h = by_test (is_part tree parent) h
  where
    by_test : (b : Bool) → (not b && may_stand kind (suc (depth tree parent))) ≡ true → (b ≡ false) × (may_stand kind (suc (depth tree parent)) ≡ true)
    by_test true e = cc
    by_test false e = (refl, e)
