-- The members of a group: their join, and adding one more member.
use Rattle.std.specs.Prelude.{◌≡◌, ℕ, zero, suc, ◌+◌, Bool, true, false, ◌||◌, ◌&&◌, if◌then◌else◌, nat_lt, List, [], ◌∷◌, ◌++◌, replicate, Option, None, Some, refl}
use Rattle.std.proofs.Common.{sym, ap, ◌∙◌, arith, add-one, append-nil}
use Rattle.std.specs.List.{list_all}
use Rattle.std.proofs.lemmas.Bool.Decides.{nat_tests}
use Rattle.lock_modes.specs.declared.mode.Mode.{Mode}
use Rattle.lock_modes.specs.declared.mode.Mode.TheVariants.{IS, IX, S, SIX, X}
use Rattle.lock_modes.specs.Modes.{join_of, join_all}
use Rattle.lock_modes.specs.Groups.{Counts, members, with_one, group_of}
use Rattle.lock_modes.proofs.Tables.{both_ways, both_at, same_mode, same_mode_eq}
use Rattle.lock_modes.proofs.Joins.{join_of-none, join_of_swap, join_of_again}

-- a mode that is there, or none
abbrev pub present : Bool → Mode → Option Mode
present b m = if b then Some m else None

-- the strongest of the modes that are there, where IX and S together are SIX
abbrev pub strongest : Bool → Bool → Bool → Bool → Bool → Option Mode
strongest is ix s six x = if x then Some X else (if six || (s && ix) then Some SIX else (if s then Some S else (if ix then Some IX else (if is then Some IS else None))))

some_more : (n : ℕ) → nat_lt 0 (suc n) ≡ true
some_more n = grind (arith, nat_tests)

join_all-present : (n : ℕ) (m : Mode) (rest : List Mode) → join_all (replicate n m ++ rest) ≡ join_of (present (nat_lt 0 n) m) (join_all rest)
join_all-present zero m rest = refl
join_all-present (suc n) m rest =
    ap (join_of (Some m)) (join_all-present n m rest) ∙ (absorbed (nat_lt 0 n) ∙ ap (λ b. join_of (present b m) (join_all rest)) (sym (some_more n)))
  where
    absorbed : (b : Bool) → join_of (Some m) (join_of (present b m) (join_all rest)) ≡ join_of (Some m) (join_all rest)
    absorbed true = join_of_again (Some m) (join_all rest)
    absorbed false = refl

abbrev same_option : Option Mode → Option Mode → Bool
same_option None None = true
same_option (Some m) (Some n) = same_mode m n
same_option a b = false

same_option_eq : (a b : Option Mode) → same_option a b ≡ true → a ≡ b
same_option_eq None None e = refl
same_option_eq (Some m) (Some n) e = ap Some (same_mode_eq m n e)
same_option_eq None (Some n) e = cc
same_option_eq (Some m) None e = cc

abbrev each_of_five : (Bool → Bool → Bool → Bool → Bool → Bool) → Bool
each_of_five test = both_ways (λ a. both_ways (λ b. both_ways (λ c. both_ways (λ d. both_ways (λ e. test a b c d e)))))

each_at : (test : Bool → Bool → Bool → Bool → Bool → Bool) → each_of_five test ≡ true → (a b c d e : Bool) → test a b c d e ≡ true
each_at test known a b c d e =
    both_at (λ e. test a b c d e)
    (both_at (λ d. both_ways (λ e. test a b c d e))
    (both_at (λ c. both_ways (λ d. both_ways (λ e. test a b c d e)))
    (both_at (λ b. both_ways (λ c. both_ways (λ d. both_ways (λ e. test a b c d e))))
    (both_at (λ a. both_ways (λ b. both_ways (λ c. both_ways (λ d. both_ways (λ e. test a b c d e))))) known a) b) c) d) e

abbrev joined : Bool → Bool → Bool → Bool → Bool → Option Mode
joined is ix s six x = join_of (present is IS) (join_of (present ix IX) (join_of (present s S) (join_of (present six SIX) (present x X))))

joined_is : (is ix s six x : Bool) → joined is ix s six x ≡ strongest is ix s six x
joined_is is ix s six x =
    same_option_eq _ _ (each_at (λ is ix s six x. same_option (joined is ix s six x) (strongest is ix s six x)) refl is ix s six x)

join_all-last : (n : ℕ) (m : Mode) → join_all (replicate n m) ≡ present (nat_lt 0 n) m
join_all-last n m = ap join_all (sym (append-nil (replicate n m))) ∙ (join_all-present n m [] ∙ join_of-none (present (nat_lt 0 n) m))

-- the join of a group's members
pub join_all-members : (g : Counts) → join_all (members g) ≡ strongest (nat_lt 0 g.is) (nat_lt 0 g.ix) (nat_lt 0 g.s) (nat_lt 0 g.six) (nat_lt 0 g.x)
join_all-members g =
    join_all-present g.is IS _
    ∙ (ap (join_of (present (nat_lt 0 g.is) IS)) (join_all-present g.ix IX _
    ∙ ap (join_of (present (nat_lt 0 g.ix) IX)) (join_all-present g.s S _
    ∙ ap (join_of (present (nat_lt 0 g.s) S)) (join_all-present g.six SIX _
    ∙ ap (join_of (present (nat_lt 0 g.six) SIX)) (join_all-last g.x X))))
    ∙ joined_is (nat_lt 0 g.is) (nat_lt 0 g.ix) (nat_lt 0 g.s) (nat_lt 0 g.six) (nat_lt 0 g.x))

-- the second list has one member more than the first, somewhere
pub data Inserts (m : Mode) : List Mode → List Mode → Type 0 where
  here : (ms : List Mode) → Inserts m ms (m ∷ ms)
  there : (n : Mode) (ms ns : List Mode) → Inserts m ms ns → Inserts m (n ∷ ms) (n ∷ ns)

behind : (m : Mode) (front ms ns : List Mode) → Inserts m ms ns → Inserts m (front ++ ms) (front ++ ns)
behind m [] ms ns more = more
behind m (n ∷ front) ms ns more = there n _ _ (behind m front ms ns more)

one_more : (n : ℕ) (m : Mode) (rest : List Mode) → Inserts m (replicate n m ++ rest) (replicate (n + 1) m ++ rest)
one_more n m rest = rw add-one (here (replicate n m ++ rest))

pub members-with_one : (g : Counts) (m : Mode) → Inserts m (members g) (members (with_one g m))
members-with_one g IS = one_more g.is IS _
members-with_one g IX = behind IX (replicate g.is IS) _ _ (one_more g.ix IX _)
members-with_one g S = behind S (replicate g.is IS) _ _ (behind S (replicate g.ix IX) _ _ (one_more g.s S _))
members-with_one g SIX = behind SIX (replicate g.is IS) _ _ (behind SIX (replicate g.ix IX) _ _ (behind SIX (replicate g.s S) _ _ (one_more g.six SIX _)))
members-with_one g X =
    behind X (replicate g.is IS) _ _ (behind X (replicate g.ix IX) _ _ (behind X (replicate g.s S) _ _ (behind X (replicate g.six SIX) _ _
    (rw add-one (here (replicate g.x X))))))

join_all-Inserts : (m : Mode) (ms ns : List Mode) → Inserts m ms ns → join_all ns ≡ join_of (Some m) (join_all ms)
join_all-Inserts m ms ns (here _) = refl
join_all-Inserts m _ _ (there n ms ns more) = ap (join_of (Some n)) (join_all-Inserts m ms ns more) ∙ join_of_swap (Some n) (Some m) (join_all ms)

and_swap : (a b c : Bool) → (a && (b && c)) ≡ (b && (a && c))
and_swap true true c = refl
and_swap true false c = refl
and_swap false true c = refl
and_swap false false c = refl

list_all-Inserts : (test : Mode → Bool) (m : Mode) (ms ns : List Mode) → Inserts m ms ns → list_all test ns ≡ (test m && list_all test ms)
list_all-Inserts test m ms ns (here _) = refl
list_all-Inserts test m _ _ (there n ms ns more) = ap (λ b. test n && b) (list_all-Inserts test m ms ns more) ∙ and_swap (test n) (test m) (list_all test ms)

-- the group of some modes has their join
pub join_all-group_of : (ms : List Mode) → join_all (members (group_of ms)) ≡ join_all ms
join_all-group_of [] = refl
join_all-group_of (m ∷ ms) =
    join_all-Inserts m _ _ (members-with_one (group_of ms) m) ∙ ap (join_of (Some m)) (join_all-group_of ms)

-- a test passes for every member of the group of some modes exactly where it passes for each of them
pub list_all-group_of : (test : Mode → Bool) (ms : List Mode) → list_all test (members (group_of ms)) ≡ list_all test ms
list_all-group_of test [] = refl
list_all-group_of test (m ∷ ms) =
    list_all-Inserts test m _ _ (members-with_one (group_of ms) m) ∙ ap (λ b. test m && b) (list_all-group_of test ms)
