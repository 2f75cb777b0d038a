-- The phase table: what one step does. One table for commits and snapshots. This project's own.
use Rattle.std.specs.Prelude.{ℕ, ◌+◌, ◌-◌, Bool, true, false, nat_le, if◌then◌else◌}
use Rattle.vault_store.specs.declared.phase.Phase.{Phase}
use Rattle.vault_store.specs.declared.phase.Phase.TheVariants.{Idle, Written, Bodied, Opening, Start, Closing, Writing, Filled, Ready, SnapOpening}
use Rattle.vault_store.specs.declared.phase.Advanced.{Advanced}
use Rattle.vault_store.specs.declared.phase.Advanced.TheVariants.{Idle as AnswersIdle, Moved, Settled}
use Rattle.vault_format.specs.Files.{header}

-- how many bytes of a snapshot one step writes at most
abbrev pub most_piece : ℕ
most_piece = 65536

-- how many bytes the next piece has, where this many are still to write
abbrev pub piece_size : ℕ → ℕ
piece_size left = if nat_le left most_piece then left else most_piece

-- the phase after that piece
abbrev pub behind_piece : ℕ → Phase
behind_piece left = if nat_le left most_piece then Filled else Writing (left - most_piece)

-- what waits behind the durable entries: nothing, entries without an effect, or some with one
pub data Waiting : Type 0 where
  Nothing : Waiting
  NoEffects : Waiting
  Effects : Waiting

-- the device call of a step
pub data DeviceCall : Type 0 where
  NoCall : DeviceCall
  Write : DeviceCall
  Sync : DeviceCall

-- what a step makes durable: no more than before, what is sealed, or all
pub data Settles : Type 0 where
  NoMore : Settles
  TheSealed : Settles
  All : Settles

-- a row of the table: the device call, the next phase, whether all so far is sealed, what becomes durable, and the answer
pub record Row : Type 0 where
  pub call : DeviceCall
  pub next : Phase
  pub seals : Bool
  pub settles : Settles
  pub answer : Advanced

-- a step that makes nothing durable
abbrev pub moves : DeviceCall → Phase → Row
moves call next = record { call = call; next = next; seals = false; settles = NoMore; answer = Moved }

-- the first step of a commit, which seals
abbrev pub seals : DeviceCall → Phase → Row
seals call next = record { call = call; next = next; seals = true; settles = NoMore; answer = Moved }

-- a last step
abbrev pub ends : DeviceCall → Settles → Row
ends call settles = record { call = call; next = Idle; seals = false; settles = settles; answer = Settled }

-- the step when there is nothing to do
abbrev pub rests : Row
rests = record { call = NoCall; next = Idle; seals = false; settles = NoMore; answer = AnswersIdle }

-- The table, for a snapshot of this length.
abbrev pub row : Phase → Waiting → ℕ → Row
row Idle Nothing length = rests
row Idle NoEffects length = ends NoCall All
row Idle Effects length = seals Write Written
row Written waiting length = moves Sync Bodied
row Bodied waiting length = moves Write Opening
row Opening waiting length = ends Sync TheSealed
row Start waiting length = moves Write Closing
row Closing waiting length = moves Sync (Writing (header + length))
row (Writing left) waiting length = moves Write (behind_piece left)
row Filled waiting length = moves Sync Ready
row Ready waiting length = moves Write SnapOpening
row SnapOpening waiting length = ends Sync TheSealed

-- whether a snapshot is under way
abbrev pub is_snapshot : Phase → Bool
is_snapshot Start = true
is_snapshot Closing = true
is_snapshot (Writing left) = true
is_snapshot Filled = true
is_snapshot Ready = true
is_snapshot SnapOpening = true
is_snapshot _ = false

-- while a gate is being opened, a crash leaves it open or closed
abbrev pub is_opening : Phase → Bool
is_opening Opening = true
is_opening SnapOpening = true
is_opening _ = false

-- whether a step may open a gate, or one is being opened
abbrev pub may_open : Phase → Bool
may_open Bodied = true
may_open Opening = true
may_open Ready = true
may_open SnapOpening = true
may_open _ = false

-- whether no commit and no snapshot is under way
abbrev pub is_idle : Phase → Bool
is_idle Idle = true
is_idle _ = false

-- what is durable afterwards: what was, what is sealed, or all
abbrev pub settled_by : {A : Type 0} → Settles → A → A → A → A
settled_by NoMore settled sealed all = settled
settled_by TheSealed settled sealed all = sealed
settled_by All settled sealed all = all

-- what stands after a fault, the old or what the row says: a failed write counts as made, a failed sync as not made
abbrev pub after_fault : {A : Type 0} → DeviceCall → A → A → A
after_fault NoCall old new = old
after_fault Write old new = new
after_fault Sync old new = old
