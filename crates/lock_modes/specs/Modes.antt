-- The five lock modes, with their compatibility, order and join: Gray, Lorie, Putzolu, Traiger,
-- "Granularity of Locks and Degrees of Consistency in a Shared Data Base", 1976.
use Rattle.std.specs.Prelude.{Bool, true, false, not, List, [], ◌∷◌, Option, None, Some}
use Rattle.lock_modes.specs.declared.mode.Mode.{Mode}
use Rattle.lock_modes.specs.declared.mode.Mode.TheVariants.{IS, IX, S, SIX, X}

-- an entry of a row, whose columns are IS, IX, S, SIX and X
abbrev pub entry : {T : Type 0} → T → T → T → T → T → Mode → T
entry is ix s six x IS = is
entry is ix s six x IX = ix
entry is ix s six x S = s
entry is ix s six x SIX = six
entry is ix s six x X = x

-- whether two owners may have these modes at one place
abbrev pub compatible : Mode → Mode → Bool
compatible IS n = entry true true true true false n
compatible IX n = entry true true false false false n
compatible S n = entry true false true false false n
compatible SIX n = entry true false false false false n
compatible X n = entry false false false false false n

-- whether the first mode allows all that the second allows
abbrev pub at_least : Mode → Mode → Bool
at_least IS n = entry true false false false false n
at_least IX n = entry true true false false false n
at_least S n = entry true false true false false n
at_least SIX n = entry true true true true false n
at_least X n = entry true true true true true n

-- the least mode that is at least both
abbrev pub join : Mode → Mode → Mode
join IS n = entry IS IX S SIX X n
join IX n = entry IX IX SIX SIX X n
join S n = entry S SIX S SIX X n
join SIX n = entry SIX SIX SIX SIX X n
join X n = entry X X X X X n

-- the least mode that an owner of this mode needs at every place above its own
abbrev pub intention : Mode → Mode
intention m = entry IS IX IS IX IX m

-- the join of two modes, where either may be missing
abbrev pub join_of : Option Mode → Option Mode → Option Mode
join_of None n = n
join_of (Some m) None = Some m
join_of (Some m) (Some n) = Some (join m n)

-- the join of some modes; no modes have none
abbrev pub join_all : List Mode → Option Mode
join_all [] = None
join_all (m ∷ ms) = join_of (Some m) (join_all ms)

-- both modes are present, and two owners may not have them at one place
abbrev pub incompatible : Option Mode → Option Mode → Bool
incompatible None n = false
incompatible (Some m) None = false
incompatible (Some m) (Some n) = not (compatible m n)
