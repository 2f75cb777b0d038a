-- Groups of modes, counted.
use Rattle.std.specs.Prelude.{ℕ, ◌+◌, List, [], ◌∷◌, ◌++◌, replicate}
use Rattle.lock_modes.specs.declared.mode.Mode.{Mode}
use Rattle.lock_modes.specs.declared.mode.Mode.TheVariants.{IS, IX, S, SIX, X}
use Rattle.lock_modes.specs.Modes.{entry}

-- how many members of each mode a group has
pub record Counts : Type 0 where
  pub is : ℕ
  pub ix : ℕ
  pub s : ℕ
  pub six : ℕ
  pub x : ℕ

-- no members of any mode
abbrev pub no_members : Counts
no_members = record { is = 0; ix = 0; s = 0; six = 0; x = 0 }

-- how many members of this mode there are
abbrev pub count_of : Counts → Mode → ℕ
count_of g m = entry g.is g.ix g.s g.six g.x m

-- how many members there are
abbrev pub size : Counts → ℕ
size g = g.is + g.ix + g.s + g.six + g.x

-- the members as a list of modes, IS first and X last
abbrev pub members : Counts → List Mode
members g = replicate g.is IS ++ (replicate g.ix IX ++ (replicate g.s S ++ (replicate g.six SIX ++ replicate g.x X)))

-- the group with one more member
abbrev pub with_one : Counts → Mode → Counts
with_one g IS = record g { is = g.is + 1 }
with_one g IX = record g { ix = g.ix + 1 }
with_one g S = record g { s = g.s + 1 }
with_one g SIX = record g { six = g.six + 1 }
with_one g X = record g { x = g.x + 1 }

-- the group of the modes of a list
abbrev pub group_of : List Mode → Counts
group_of [] = no_members
group_of (m ∷ ms) = with_one (group_of ms) m
