-- Facts about the modes, each computed over the whole table.
use Rattle.std.specs.Prelude.{◌≡◌, Bool, true, false, not, ◌&&◌, refl}
use Rattle.std.proofs.Common.{sym}
use Rattle.lock_modes.specs.declared.mode.Mode.{Mode}
use Rattle.lock_modes.specs.declared.mode.Mode.TheVariants.{IS, IX, S, SIX, X}
use Rattle.lock_modes.specs.Modes.{compatible, at_least, join, intention}

pub and_both : (a b : Bool) → (a && b) ≡ true → (a ≡ true) × (b ≡ true)
and_both true b e = (refl, e)
and_both false b e = cc

-- whether two tests have one answer
abbrev pub same : Bool → Bool → Bool
same true b = b
same false b = not b

pub same_eq : (a b : Bool) → same a b ≡ true → a ≡ b
same_eq true true e = refl
same_eq true false e = sym e
same_eq false true e = e
same_eq false false e = refl

abbrev pub implies : Bool → Bool → Bool
implies true b = b
implies false b = true

pub implies_then : (a b : Bool) → implies a b ≡ true → a ≡ true → b ≡ true
implies_then true b e h = e
implies_then false b e h = cc

-- whether a test passes for every mode
abbrev pub every : (Mode → Bool) → Bool
every test = test IS && (test IX && (test S && (test SIX && test X)))

pub every_at : (test : Mode → Bool) → every test ≡ true → (m : Mode) → test m ≡ true
every_at test e IS = (and_both (test IS) _ e).0
every_at test e IX = (and_both (test IX) _ (and_both (test IS) _ e).1).0
every_at test e S = (and_both (test S) _ (and_both (test IX) _ (and_both (test IS) _ e).1).1).0
every_at test e SIX = (and_both (test SIX) _ (and_both (test S) _ (and_both (test IX) _ (and_both (test IS) _ e).1).1).1).0
every_at test e X = (and_both (test SIX) _ (and_both (test S) _ (and_both (test IX) _ (and_both (test IS) _ e).1).1).1).1

pub every_pair : (test : Mode → Mode → Bool) → every (λ m. every (test m)) ≡ true → (m n : Mode) → test m n ≡ true
every_pair test e m n = every_at (test m) (every_at (λ m. every (test m)) e m) n

pub every_triple : (test : Mode → Mode → Mode → Bool) → every (λ l. every (λ m. every (test l m))) ≡ true → (l m n : Mode) → test l m n ≡ true
every_triple test e l m n = every_pair (test l) (every_at (λ l. every (λ m. every (test l m))) e l) m n

-- the two modes are the same
abbrev pub same_mode : Mode → Mode → Bool
same_mode m n = at_least m n && at_least n m

-- whether a test passes at both Bools
abbrev pub both_ways : (Bool → Bool) → Bool
both_ways test = test true && test false

pub both_at : (test : Bool → Bool) → both_ways test ≡ true → (b : Bool) → test b ≡ true
both_at test e true = (and_both (test true) _ e).0
both_at test e false = (and_both (test true) _ e).1

pub compatible_symmetric : (m n : Mode) → compatible m n ≡ compatible n m
compatible_symmetric m n = same_eq _ _ (every_pair (λ m n. same (compatible m n) (compatible n m)) refl m n)

-- what a join is compatible with
pub compatible-join : (l m n : Mode) → compatible (join l m) n ≡ (compatible l n && compatible m n)
compatible-join l m n = same_eq _ _ (every_triple (λ l m n. same (compatible (join l m) n) (compatible l n && compatible m n)) refl l m n)

pub compatible_falls : (l m n : Mode) → at_least l m ≡ true → compatible l n ≡ true → compatible m n ≡ true
compatible_falls l m n lower fits =
    implies_then _ _ (implies_then _ _ (every_triple (λ l m n. implies (at_least l m) (implies (compatible l n) (compatible m n))) refl l m n) lower) fits

pub at_least_itself : (m : Mode) → at_least m m ≡ true
at_least_itself m = every_at (λ m. at_least m m) refl m

pub at_least_through : (l m n : Mode) → at_least l m ≡ true → at_least m n ≡ true → at_least l n ≡ true
at_least_through l m n first second =
    implies_then _ _ (implies_then _ _ (every_triple (λ l m n. implies (at_least l m) (implies (at_least m n) (at_least l n))) refl l m n) first) second

pub at_least_both : (m n : Mode) → at_least m n ≡ true → at_least n m ≡ true → m ≡ n
at_least_both IS IS e f = refl
at_least_both IX IX e f = refl
at_least_both S S e f = refl
at_least_both SIX SIX e f = refl
at_least_both X X e f = refl
at_least_both IS n e f = cc
at_least_both IX n e f = cc
at_least_both S n e f = cc
at_least_both SIX n e f = cc
at_least_both X n e f = cc

pub same_mode_eq : (m n : Mode) → same_mode m n ≡ true → m ≡ n
same_mode_eq m n e = let parts = and_both (at_least m n) _ e in at_least_both m n parts.0 parts.1

pub join_left : (m n : Mode) → at_least (join m n) m ≡ true
join_left m n = every_pair (λ m n. at_least (join m n) m) refl m n

pub join_right : (m n : Mode) → at_least (join m n) n ≡ true
join_right m n = every_pair (λ m n. at_least (join m n) n) refl m n

pub join_least : (l m n : Mode) → at_least l m ≡ true → at_least l n ≡ true → at_least l (join m n) ≡ true
join_least l m n first second =
    implies_then _ _ (implies_then _ _ (every_triple (λ l m n. implies (at_least l m) (implies (at_least l n) (at_least l (join m n)))) refl l m n) first) second

pub join_itself : (m : Mode) → join m m ≡ m
join_itself m = same_mode_eq _ _ (every_at (λ m. same_mode (join m m) m) refl m)

pub join_symmetric : (m n : Mode) → join m n ≡ join n m
join_symmetric m n = same_mode_eq _ _ (every_pair (λ m n. same_mode (join m n) (join n m)) refl m n)

pub join_associative : (l m n : Mode) → join (join l m) n ≡ join l (join m n)
join_associative l m n = same_mode_eq _ _ (every_triple (λ l m n. same_mode (join (join l m) n) (join l (join m n))) refl l m n)

pub intention-join : (m n : Mode) → intention (join m n) ≡ join (intention m) (intention n)
intention-join m n = same_mode_eq _ _ (every_pair (λ m n. same_mode (intention (join m n)) (join (intention m) (intention n))) refl m n)
