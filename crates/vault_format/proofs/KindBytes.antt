-- The kind of a place, spelled and read, in either version.
use Rattle.std.proofs.Common.{◌≡◌, ℕ, suc, ◌==◌, Bool, true, false, cond, List, [], ◌∷◌, ◌++◌, Some, None, refl, sym, ◌∙◌, ap}
use Rattle.std.proofs.Common.{arith}
use Rattle.std.proofs.lemmas.Bool.Decides.{nat_tests}
use Rattle.vault_state.specs.declared.place.Place.{Place}
use Rattle.vault_state.specs.declared.place.Kind.{Kind}
use Rattle.vault_state.specs.declared.place.Kind.TheVariants.{Library, Project, Assembly, Part}
use Rattle.vault_state.specs.Tree.{depth, kind_of, is_part_kind, may_stand}
use Rattle.vault_state.proofs.Depths.{assembly_deep, part_deep, one_kind}
use Rattle.vault_state.proofs.Overlaps.{eq_from}
use Rattle.vault_journal.proofs.Takes.{some_is}
use Rattle.vault_format.specs.declared.version.FileVersion.{FileVersion}
use Rattle.vault_format.specs.declared.version.FileVersion.TheVariants.{One, Two}
use Rattle.vault_format.specs.Snapshot.{kind_byte, kind_field, IsKindIn}
use Rattle.vault_format.specs.Places.{no_part_under, kind_before}

abbrev Told : Type 0
Told = Kind × List ℕ

abbrev told : Kind → List ℕ → Told
told kind rest = (kind, rest)

no_part : (kind : Kind) → is_part_kind (no_part_under kind) ≡ false
no_part Library = refl
no_part Project = refl
no_part Assembly = refl
no_part Part = refl

part_is : (kind : Kind) → is_part_kind kind ≡ true → kind ≡ Part
part_is Library e = cc
part_is Project e = cc
part_is Assembly e = cc
part_is Part e = refl

-- the kind of a place under one of this kind, if it is no part
no_part_is : (above kind : Kind) (d : ℕ) → may_stand above d ≡ true → may_stand kind (suc d) ≡ true → is_part_kind kind ≡ false → kind ≡ no_part_under above
no_part_is above Library d stands_above stands other = absurd (grind (arith, nat_tests, stands))
no_part_is Library Project d stands_above stands other = refl
no_part_is Project Project d stands_above stands other = absurd (grind (arith, nat_tests, stands, stands_above))
no_part_is Assembly Project d stands_above stands other = let deep = assembly_deep d stands_above in absurd (grind (arith, nat_tests, stands, deep))
no_part_is Part Project d stands_above stands other = let deep = part_deep d stands_above in absurd (grind (arith, nat_tests, stands, deep))
no_part_is Library Assembly d stands_above stands other = let deep = assembly_deep (suc d) stands in absurd (grind (arith, nat_tests, stands_above, deep))
no_part_is Project Assembly d stands_above stands other = refl
no_part_is Assembly Assembly d stands_above stands other = refl
no_part_is Part Assembly d stands_above stands other = refl
no_part_is above Part d stands_above stands other = cc

-- what is read was spelled so
pub kind_read : (version : FileVersion) (tree : List Place) (parent : ℕ) (bytes rest : List ℕ) (kind : Kind) → kind_before version tree parent bytes ≡ Some (kind, rest) → bytes ≡ kind_field version (is_part_kind kind) ++ rest
kind_read One tree parent bytes rest kind got = ap (λ (x : Told). x.1) (some_is _ _ got)
kind_read Two tree parent [] rest kind got = absurd (cc)
kind_read Two tree parent (byte ∷ behind) rest kind got = by_byte (byte == 1) refl (byte == 0) refl got
  where
    by_byte : (b : Bool) → (byte == 1) ≡ b → (c : Bool) → (byte == 0) ≡ c → cond b (Some (told Part behind)) (cond c (Some (told (no_part_under (kind_of tree parent)) behind)) None) ≡ Some (told kind rest) → byte ∷ behind ≡ kind_byte (is_part_kind kind) ∷ rest
    by_byte true one c zero e =
        let both : told Part behind ≡ told kind rest = some_is (told Part behind) (told kind rest) e in
        ap (λ (n : ℕ). n ∷ behind) (eq_from byte 1 one) ∙ ap (λ (x : Told). kind_byte (is_part_kind x.0) ∷ x.1) both
    by_byte false one true zero e =
        let under = no_part_under (kind_of tree parent) in
        let both : told under behind ≡ told kind rest = some_is (told under behind) (told kind rest) e in
        ap (λ (n : ℕ). n ∷ behind) (eq_from byte 0 zero) ∙ ap (λ (b : Bool). kind_byte b ∷ behind) (sym (no_part (kind_of tree parent))) ∙ ap (λ (x : Told). kind_byte (is_part_kind x.0) ∷ x.1) both
    by_byte false one false zero e = cc

-- and the version can spell it
pub kind_in : (version : FileVersion) (tree : List Place) (parent : ℕ) (bytes rest : List ℕ) (kind : Kind) → kind_before version tree parent bytes ≡ Some (kind, rest) → IsKindIn version kind (suc (depth tree parent))
kind_in One tree parent bytes rest kind got = sym (ap (λ (x : Told). x.0) (some_is _ _ got))
kind_in Two tree parent bytes rest kind got = tt

-- what is spelled is read
pub kind_again : (version : FileVersion) (tree : List Place) (parent : ℕ) (kind : Kind) (rest : List ℕ) → may_stand (kind_of tree parent) (depth tree parent) ≡ true → may_stand kind (suc (depth tree parent)) ≡ true → IsKindIn version kind (suc (depth tree parent))
    → kind_before version tree parent (kind_field version (is_part_kind kind) ++ rest) ≡ Some (kind, rest)
kind_again One tree parent kind rest above stands told = ap (λ (k : Kind). Some (k, rest)) (sym told)
kind_again Two tree parent kind rest above stands told = by_part (is_part_kind kind) refl
  where
    by_part : (b : Bool) → is_part_kind kind ≡ b → kind_before Two tree parent (kind_byte b ∷ rest) ≡ Some (kind, rest)
    by_part true e = ap (λ (k : Kind). Some (k, rest)) (sym (part_is kind e))
    by_part false e = ap (λ (k : Kind). Some (k, rest)) (sym (no_part_is (kind_of tree parent) kind (depth tree parent) above stands e))

-- kinds at one depth with the same spelling are the same
pub kinds_told : (version : FileVersion) (k l : Kind) (d : ℕ) (s t : List ℕ) → may_stand k d ≡ true → may_stand l d ≡ true → IsKindIn version k d → IsKindIn version l d → kind_field version (is_part_kind k) ++ s ≡ kind_field version (is_part_kind l) ++ t → k ≡ l
kinds_told One k l d s t stands_k stands_l in_k in_l same = in_k ∙ sym in_l
kinds_told Two k l d s t stands_k stands_l in_k in_l same = one_kind k l d stands_k stands_l (by_bytes (is_part_kind k) (is_part_kind l) same)
  where
    by_bytes : (b c : Bool) → kind_byte b ∷ s ≡ kind_byte c ∷ t → b ≡ c
    by_bytes true true e = refl
    by_bytes false false e = refl
    by_bytes true false e = cc
    by_bytes false true e = cc
