-- The entries that are gone, after each call.
use Rattle.std.proofs.Common.{◌≡◌, ℕ, ◌+◌, cond, List, [], ◌∷◌, ◌++◌, length, Some, sym, ap, ◌∙◌, arith, length-append}
use Rattle.group_commit.specs.declared.mark.Mark.TheVariants.{Open, Told, Forgotten}
use Rattle.group_commit.specs.Entries.{Entry, Kept, opened, mark_at, with_mark, is_told, told_in}
use Rattle.group_commit.specs.Inside.{AreGone}
use Rattle.group_commit.proofs.Marks.{told_open, told_one_more, told_same}

told_one : (kept : List Kept) (x : Kept) → told_in (kept ++ x ∷ []) ≡ told_in kept + cond (is_told x.mark) 1 0
told_one [] x = omega arith
told_one (y ∷ kept) x = let rest = told_one kept x in omega (arith, rest)

pub gone_none : (gone kept : List Kept) → gone ≡ [] → kept ≡ [] → AreGone gone kept 0 0
gone_none gone kept none empty = record { retired_is = sym (ap length none); told_is = omega (arith, ap told_in none, ap told_in empty) }

pub gone_staged : (gone kept more : List Kept) (x : Kept) (entry : Entry) (retired told : ℕ) → more ≡ kept ++ x ∷ [] → x ≡ opened entry → AreGone gone kept retired told → AreGone gone more retired told
gone_staged gone kept more x entry retired told is opens g =
    let same : told_in more ≡ told_in kept = ap told_in (is ∙ ap (λ y. kept ++ y ∷ []) opens) ∙ told_open kept entry in
    record { retired_is = g.retired_is; told_is = omega (arith, g.told_is, same) }

pub gone_forgotten : (gone kept more : List Kept) (place retired told : ℕ) → more ≡ with_mark Forgotten kept place → mark_at kept place ≡ Some Open → AreGone gone kept retired told → AreGone gone more retired told
gone_forgotten gone kept more place retired told is was g =
    let same : told_in more ≡ told_in kept = ap told_in is ∙ told_same kept place was in
    record { retired_is = g.retired_is; told_is = omega (arith, g.told_is, same) }

pub gone_told : (gone kept more : List Kept) (place retired told : ℕ) → more ≡ with_mark Told kept place → mark_at kept place ≡ Some Open → AreGone gone kept retired told → AreGone gone more retired (told + 1)
gone_told gone kept more place retired told is was g =
    let one : told_in more ≡ told_in kept + 1 = ap told_in is ∙ told_one_more kept place was in
    record { retired_is = g.retired_is; told_is = omega (arith, g.told_is, one) }

pub gone_retired : (gone kept all rest : List Kept) (x : Kept) (retired told : ℕ) → all ≡ gone ++ x ∷ [] → kept ≡ x ∷ rest → AreGone gone kept retired told → AreGone all rest (retired + 1) told
gone_retired gone kept all rest x retired told is first g =
    let more : length all ≡ length gone + 1 = ap length is ∙ length-append gone (x ∷ []) in
    let here : told_in all ≡ told_in gone + cond (is_told x.mark) 1 0 = ap told_in is ∙ told_one gone x in
    let were : told_in kept ≡ cond (is_told x.mark) 1 0 + told_in rest = ap told_in first in
    record { retired_is = omega (arith, g.retired_is, more); told_is = omega (arith, g.told_is, here, were) }
