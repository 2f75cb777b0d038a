-- Joins of modes that may be missing, and of lists of modes.
use Rattle.std.specs.Prelude.{◌≡◌, Bool, true, false, not, ◌||◌, ◌&&◌, List, [], ◌∷◌, Option, None, Some, refl}
use Rattle.std.proofs.Common.{sym, ap, ◌∙◌}
use Rattle.std.specs.List.{list_all}
use Rattle.lock_modes.specs.declared.mode.Mode.{Mode}
use Rattle.lock_modes.specs.Modes.{compatible, join_of, join_all, incompatible}
use Rattle.lock_modes.proofs.Tables.{compatible_symmetric, compatible-join, join_itself, join_symmetric, join_associative}

pub join_of-none : (a : Option Mode) → join_of a None ≡ a
join_of-none None = refl
join_of-none (Some m) = refl

pub join_of_symmetric : (a b : Option Mode) → join_of a b ≡ join_of b a
join_of_symmetric None b = sym (join_of-none b)
join_of_symmetric (Some m) None = refl
join_of_symmetric (Some m) (Some n) = ap Some (join_symmetric m n)

pub join_of_associative : (a b c : Option Mode) → join_of (join_of a b) c ≡ join_of a (join_of b c)
join_of_associative None b c = refl
join_of_associative (Some l) None c = refl
join_of_associative (Some l) (Some m) None = refl
join_of_associative (Some l) (Some m) (Some n) = ap Some (join_associative l m n)

-- the second and the third are swapped
pub join_of_swap : (a b c : Option Mode) → join_of a (join_of b c) ≡ join_of b (join_of a c)
join_of_swap a b c = sym (join_of_associative a b c) ∙ (ap (λ d. join_of d c) (join_of_symmetric a b) ∙ join_of_associative b a c)

pub join_of_itself : (a : Option Mode) → join_of a a ≡ a
join_of_itself None = refl
join_of_itself (Some m) = ap Some (join_itself m)

pub join_of_again : (a b : Option Mode) → join_of a (join_of a b) ≡ join_of a b
join_of_again a b = sym (join_of_associative a a b) ∙ ap (λ d. join_of d b) (join_of_itself a)

or_none : (b : Bool) → b ≡ (b || false)
or_none true = refl
or_none false = refl

not-and : (a b : Bool) → not (a && b) ≡ (not a || not b)
not-and true b = refl
not-and false b = refl

pub incompatible_symmetric : (a b : Option Mode) → incompatible a b ≡ incompatible b a
incompatible_symmetric None None = refl
incompatible_symmetric None (Some n) = refl
incompatible_symmetric (Some m) None = refl
incompatible_symmetric (Some m) (Some n) = ap not (compatible_symmetric m n)

-- a join is incompatible with what one of its parts is incompatible with
pub incompatible-join_of : (a b n : Option Mode) → incompatible (join_of a b) n ≡ (incompatible a n || incompatible b n)
incompatible-join_of None b n = refl
incompatible-join_of (Some l) None n = or_none (incompatible (Some l) n)
incompatible-join_of (Some l) (Some m) None = refl
incompatible-join_of (Some l) (Some m) (Some n) = ap not (compatible-join l m n) ∙ not-and (compatible l n) (compatible m n)

not-or : (a b : Bool) → not (a || b) ≡ (not a && not b)
not-or true b = refl
not-or false b = refl

not-not : (b : Bool) → not (not b) ≡ b
not-not true = refl
not-not false = refl

-- a mode is compatible with every mode of a list exactly where it is compatible with their join
pub list_all-compatible : (ms : List Mode) (n : Mode) → list_all (λ m. compatible m n) ms ≡ not (incompatible (join_all ms) (Some n))
list_all-compatible [] n = refl
list_all-compatible (m ∷ ms) n =
    ap (λ b. compatible m n && b) (list_all-compatible ms n)
    ∙ (ap (λ b. b && not (incompatible (join_all ms) (Some n))) (sym (not-not (compatible m n)))
    ∙ (sym (not-or (not (compatible m n)) (incompatible (join_all ms) (Some n)))
    ∙ ap not (sym (incompatible-join_of (Some m) (join_all ms) (Some n)))))
