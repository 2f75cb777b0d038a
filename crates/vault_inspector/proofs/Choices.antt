-- Which file is read as the active one.
use Rattle.std.proofs.Common.{◌≡◌, ◌<◌, ◌≤◌, Bool, true, false, cond, Option, Some, None, refl, ap, arith}
use Rattle.std.specs.Prelude.{nat_lt}
use Rattle.std.proofs.lemmas.Bool.{ltb-true}
use Rattle.std.proofs.lemmas.Bool.Decides.{nat_tests}
use Rattle.vault_inspector.specs.declared.inspecting.Right.{Right}
use Rattle.vault_inspector.specs.declared.inspecting.Active.TheVariants.{Neither, First, Second}
use Rattle.vault_inspector.specs.Found.{active_among}

pub first_chosen : (a b : Option Right) (g : Right) → active_among a b ≡ First g → (a ≡ Some g) × ((h : Right) → b ≡ Some h → h.generation ≤ g.generation)
first_chosen None None g e = cc
first_chosen None (Some other) g e = cc
first_chosen (Some own) None g e = let same : own ≡ g = cc in (ap Some same, λ h there. cc)
first_chosen (Some own) (Some other) g e = by_test (nat_lt own.generation other.generation) refl e
  where
    by_test : (b : Bool) → nat_lt own.generation other.generation ≡ b → cond b (Second other) (First own) ≡ First g → (Some own ≡ Some g) × ((h : Right) → Some other ≡ Some h → h.generation ≤ g.generation)
    by_test true less chosen = cc
    by_test false less chosen =
        let same : own ≡ g = cc in
        (ap Some same, λ h there. let that : other ≡ h = cc in let few : other.generation ≤ own.generation = grind (arith, nat_tests, less) in omega (arith, few, ap (λ (r : Right). r.generation) same, ap (λ (r : Right). r.generation) that))

pub second_chosen : (a b : Option Right) (g : Right) → active_among a b ≡ Second g → (b ≡ Some g) × ((h : Right) → a ≡ Some h → h.generation < g.generation)
second_chosen None None g e = cc
second_chosen None (Some other) g e = let same : other ≡ g = cc in (ap Some same, λ h there. cc)
second_chosen (Some own) None g e = cc
second_chosen (Some own) (Some other) g e = by_test (nat_lt own.generation other.generation) refl e
  where
    by_test : (b : Bool) → nat_lt own.generation other.generation ≡ b → cond b (Second other) (First own) ≡ Second g → (Some other ≡ Some g) × ((h : Right) → Some own ≡ Some h → h.generation < g.generation)
    by_test true less chosen =
        let same : other ≡ g = cc in
        (ap Some same, λ h there. let that : own ≡ h = cc in let more = ltb-true own.generation other.generation less in omega (arith, more, ap (λ (r : Right). r.generation) same, ap (λ (r : Right). r.generation) that))
    by_test false less chosen = cc

pub none_chosen : (a b : Option Right) → active_among a b ≡ Neither → (a ≡ None) × (b ≡ None)
none_chosen None None e = (refl, refl)
none_chosen None (Some other) e = cc
none_chosen (Some own) None e = cc
none_chosen (Some own) (Some other) e = by_test (nat_lt own.generation other.generation) e
  where
    by_test : (b : Bool) → cond b (Second other) (First own) ≡ Neither → (Some own ≡ None) × (Some other ≡ None)
    by_test true chosen = cc
    by_test false chosen = cc
