-- Lists copied one by one.
use Rattle.std.specs.Prelude.{◌≡◌, List, [], ◌∷◌, map, refl}
use Rattle.std.specs.List.{AllZip}

-- lists that are alike two by two are the same, seen through f
pub same_through : {X Y : Type 0} (f : X → Y) (R : X → X → Type 0) → ((x y : X) → R x y → f y ≡ f x) → (xs ys : List X) → AllZip R xs ys → map f ys ≡ map f xs
same_through f R same [] [] zip = refl
same_through f R same [] (y ∷ ys) zip = absurd zip
same_through f R same (x ∷ xs) [] zip = absurd zip
same_through f R same (x ∷ xs) (y ∷ ys) zip =
    let here = same x y zip.0 in
    let rest = same_through f R same xs ys zip.1 in
    (λ j. here j ∷ rest j)
