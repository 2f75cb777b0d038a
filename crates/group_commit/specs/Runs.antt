-- Runs: any order of acts and crashes, each allowed where it stands. This project's own.
use Rattle.std.specs.Prelude.{ℕ, List, [], ◌∷◌}
use Rattle.vault_state.specs.Vault.{Vault}
use Rattle.group_commit.specs.World.{World, Act, GateLeft, Allows, acted, crashed}

-- an act of the present life, or a crash with the restart after it
pub data Event : Type 0 where
  Within : (act : Act) → Event
  Crash : (gate : GateLeft) → Event

-- where an event is allowed: an act where it is, and a crash everywhere
abbrev pub AllowsEvent : (Vault → ℕ) → World → Event → Type 0
AllowsEvent snapshot w (Within act) = Allows snapshot w act
AllowsEvent snapshot w (Crash gate) = Unit {0}

-- the world after an event
abbrev pub happened : (Vault → ℕ) → World → Event → World
happened snapshot w (Within act) = acted snapshot w act
happened snapshot w (Crash gate) = crashed w gate

-- the world after a list of events
abbrev pub run : (Vault → ℕ) → World → List Event → World
run snapshot w [] = w
run snapshot w (event ∷ events) = run snapshot (happened snapshot w event) events

-- a list of events is a run where each is allowed after those before it
abbrev pub IsRun : (Vault → ℕ) → World → List Event → Type 0
IsRun snapshot w [] = Unit {0}
IsRun snapshot w (event ∷ events) = AllowsEvent snapshot w event × IsRun snapshot (happened snapshot w event) events
