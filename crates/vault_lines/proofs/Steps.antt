-- Steps of a reading that gave a value.
use Rattle.std.proofs.Common.{◌≡◌, Bool, true, List, [], ◌∷◌, Option, Some, None, refl, sym, ap, ◌∙◌, subst, inl, inr}
use Rattle.std.specs.Prelude.{find}
use Rattle.std.specs.Option.{option_map}
use Rattle.vault_lines.specs.Reading.{◌>>=◌}
use Rattle.vault_state.proofs.Lists.{chosen}

pub along : {A : Type 0} (P : A → Type 0) {x y : A} → x ≡ y → P x → P y
along P e p = subst P e p

pub bind_some : {A B : Type 0} (o : Option A) (f : A → Option B) (y : B)
    → (o >>= f) ≡ Some y → (x : A) × (o ≡ Some x) × (f x ≡ Some y)
bind_some (Some x) f y h = (x, refl, h)
bind_some None f y h = cc h

pub map_some : {A B : Type 0} (o : Option A) (f : A → B) (y : B)
    → option_map f o ≡ Some y → (x : A) × (o ≡ Some x) × (f x ≡ y)
map_some (Some x) f y h = (x, refl, cc)
map_some None f y h = cc h

-- what is found passes the test
pub find_passes : {A : Type 0} (test : A → Bool) (xs : List A) (found : A) → find test xs ≡ Some found → test found ≡ true
find_passes test [] found e = cc e
find_passes test (x ∷ xs) found e =
    elim (chosen (test x) (Some x) (find test xs) (Some found) e) [
      | inl h ↦ let same : x ≡ found = cc (h.1) in ap test (sym same) ∙ h.0
      | inr h ↦ find_passes test xs found h.1
    ]
