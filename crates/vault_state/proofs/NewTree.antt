-- The tree of a new vault: the library alone.
use Rattle.std.specs.Prelude.{◌≡◌, ◌<◌, ℕ, zero, suc, None, Some, [], refl}
use Rattle.std.proofs.Common.{arith}
use Rattle.vault_state.specs.declared.place.Kind.TheVariants.{Library}
use Rattle.vault_state.specs.Tree.{IsTree, kind_of, parent_of}
use Rattle.vault_state.proofs.Walks.{depth-top}

pub tree_new : IsTree []
tree_new = record {
  few = omega arith;
  parents = λ p parent e. nowhere p parent e;
  shallow = λ p. rw (depth-top [] p (no_parent p)) (omega arith);
  no_parts_above = λ p parent e. let none = no_parent p in cc;
  kinds = λ p. rw (no_kind p, depth-top [] p (no_parent p)) refl;
  siblings = λ i j a b e. cc;
  narrow = λ p. omega arith;
}
  where
    no_parent : (p : ℕ) → parent_of [] p ≡ None
    no_parent zero = refl
    no_parent (suc p) = refl

    no_kind : (p : ℕ) → kind_of [] p ≡ Library
    no_kind zero = refl
    no_kind (suc p) = refl

    nowhere : (p parent : ℕ) → parent_of [] p ≡ Some parent → parent < p
    nowhere p parent e = let none = no_parent p in cc
