-- Runs worked out by hand, which the definitions have to give.
use Rattle.std.specs.Prelude.{◌≡◌, ℕ, List, [], ◌∷◌, ◌++◌, None, Some, codes, replicate, slice_get}
use Rattle.vault_model.specs.Said.{Command, Reply}
use Rattle.vault_model.specs.declared.commands.Command.TheVariants.{Join, Make, CheckOut, Hold, State, List as Names}
use Rattle.vault_model.specs.declared.replies.Reply.TheVariants.{Session, Place, Held, Queued, Children, Refused}
use Rattle.vault_model.specs.declared.replies.Refusal.TheVariants.{NoSession, NoClaim}
use Rattle.vault_state.specs.declared.ids.ClaimId.TheVariants.{Long, Short}
use Rattle.vault_state.specs.Vault.{Vault}
use Rattle.vault_model.specs.Rows.{anna, ben, path_e, look, change}
use Rattle.vault_store.specs.declared.phase.Advanced.{Advanced as Pumped}
use Rattle.vault_store.specs.declared.phase.Advanced.TheVariants.{Idle as Rests, Moved, Settled}
use Rattle.group_commit.specs.History.{Member, Given, Restart}
use Rattle.vault_store.specs.Phases.{Row, DeviceCall, NoCall, Write, Sync}
use Rattle.group_commit.specs.World.{World, new_world, history, Stage, Pump, Fault, StartSnapshot, Tell, Forget, Retire, row_of, Allows, StaysClosed, IsOpen}
use Rattle.group_commit.specs.Runs.{Event, Within, Crash, happened, run, IsRun}

-- a snapshot of any vault, taken to have as many bytes as the new vault's
abbrev pub ten_bytes : Vault → ℕ
ten_bytes v = 10

-- the row of each pump, with its answer and device call
unfoldable pub pumps_of : World → List Event → List Row
pumps_of w [] = []
pumps_of w (Within Pump ∷ events) = row_of ten_bytes w ∷ pumps_of (happened ten_bytes w (Within Pump)) events
pumps_of w (event ∷ events) = pumps_of (happened ten_bytes w event) events

-- the answers of pumps
abbrev pub answers_in : List Row → List Pumped
answers_in [] = []
answers_in (r ∷ rest) = r.answer ∷ answers_in rest

-- their device calls
abbrev pub calls_in : List Row → List DeviceCall
calls_in [] = []
calls_in (r ∷ rest) = r.call ∷ calls_in rest

-- the replies of a history, in order
abbrev pub replies_in : List Member → List Reply
replies_in [] = []
replies_in (Given entry ∷ rest) = entry.reply ∷ replies_in rest
replies_in (Restart ∷ rest) = replies_in rest

-- the world after these events
abbrev pub after_events : List Event → World
after_events events = run ten_bytes new_world events

-- these events are a run, its pumps make these device calls and answer this, and its history has these replies
pub record Shows (events : List Event) (made : List DeviceCall) (answered : List Pumped) (told : List Reply) : Type 0 where
  pub is_run : IsRun ten_bytes new_world events
  pub calls : calls_in (pumps_of new_world events) ≡ made
  pub answers : answers_in (pumps_of new_world events) ≡ answered
  pub replies : replies_in (history (after_events events)) ≡ told

-- a command is staged
abbrev pub stage : ℕ → Command → Event
stage session command = Within (Stage session command)

-- some pumps
abbrev pub pumps : ℕ → List Event
pumps n = replicate n (Within Pump)

-- a place is asked for
abbrev pub make : List (List ℕ) → Command
make path = Make path None

-- another project
abbrev pub path_f : List (List ℕ)
path_f = codes "f" ∷ []

-- two designers join, which changes nothing durable; each makes a project, in one frame; all is acknowledged and retired
abbrev pub two_sessions : List Event
two_sessions =
    stage 0 (Join anna) ∷ stage 0 (Join ben) ∷ pumps 1
    ++ stage 1 (make path_e) ∷ stage 2 (make path_f) ∷ pumps 4
    ++ Within (Tell 2) ∷ Within (Tell 3) ∷ Within (Tell 0) ∷ Within (Tell 1) ∷ Within Retire ∷ Within Retire ∷ Within Retire ∷ Within Retire
    ∷ []

-- it takes four device calls
abbrev pub TwoSessionsOneFrame : Type 0
TwoSessionsOneFrame =
    Shows two_sessions
    (NoCall ∷ Write ∷ Sync ∷ Write ∷ Sync ∷ [])
    (Settled ∷ Moved ∷ Moved ∷ Moved ∷ Settled ∷ [])
    (Session 1 ∷ Session 2 ∷ Place 1 ∷ Place 2 ∷ [])

-- a command with no durable effect needs no device call, and then there is nothing to do
abbrev pub NothingForGood : Type 0
NothingForGood = Shows (stage 1 (State (Long 1)) ∷ pumps 1 ++ Within (Tell 0) ∷ pumps 1) (NoCall ∷ NoCall ∷ []) (Settled ∷ Rests ∷ [])
    (Refused NoSession ∷ [])

-- one project is committed and acknowledged, a second is staged and pumped three times: its gate is being opened
abbrev pub half_committed : List Event
half_committed = stage 0 (Join anna) ∷ stage 1 (make path_e) ∷ pumps 4 ++ Within (Tell 1) ∷ stage 1 (make path_f) ∷ pumps 3

-- anna joins again and lists the projects
abbrev pub look_again : List Event
look_again = stage 0 (Join anna) ∷ stage 1 (Names []) ∷ []

-- half of a second commit
abbrev pub half_answers : List Pumped
half_answers = Moved ∷ Moved ∷ Moved ∷ Settled ∷ Moved ∷ Moved ∷ Moved ∷ []

-- its device calls
abbrev pub half_calls : List DeviceCall
half_calls = Write ∷ Sync ∷ Write ∷ Sync ∷ Write ∷ Sync ∷ Write ∷ []

-- a crash that leaves the gate closed loses the second project
abbrev pub TornGateClosed : Type 0
TornGateClosed = Shows (half_committed ++ Crash StaysClosed ∷ look_again) half_calls half_answers
    (Session 1 ∷ Place 1 ∷ Session 1 ∷ Children (codes "e" ∷ []) ∷ [])

-- one that leaves it open keeps it
abbrev pub TornGateOpen : Type 0
TornGateOpen = Shows (half_committed ++ Crash IsOpen ∷ look_again) half_calls half_answers
    (Session 1 ∷ Place 1 ∷ Place 2 ∷ Session 1 ∷ Children (codes "e" ∷ codes "f" ∷ []) ∷ [])

-- what was acknowledged before the crash stands at its position after it
abbrev pub ToldStands : Type 0
ToldStands =
    slice_get (history (after_events (half_committed ++ Crash StaysClosed ∷ look_again))) 1
    ≡ Some (Given (record { session = 1; number = 1; command = make path_e; reply = Place 1 }))

-- a check-out that waits behind a hold is granted after a restart, and the hold is gone
abbrev pub HoldGoes : Type 0
HoldGoes =
    Shows
    (stage 0 (Join anna) ∷ stage 0 (Join ben) ∷ stage 1 (make path_e) ∷ stage 2 (Hold (change path_e ∷ []))
    ∷ stage 1 (CheckOut (look path_e ∷ [])) ∷ pumps 4
    ++ Crash StaysClosed ∷ stage 0 (Join anna) ∷ stage 1 (State (Long 1)) ∷ stage 1 (State (Short 1)) ∷ [])
    (Write ∷ Sync ∷ Write ∷ Sync ∷ []) (Moved ∷ Moved ∷ Moved ∷ Settled ∷ [])
    (Session 1 ∷ Session 2 ∷ Place 1 ∷ Held (Short 1) ∷ Queued (Long 1) (Short 1) ∷ Session 1 ∷ Held (Long 1) ∷ Refused NoClaim ∷ [])

-- a project is committed, a second staged, and a snapshot begun and pumped five times: its gate is being opened
abbrev pub half_a_snapshot : List Event
half_a_snapshot = stage 0 (Join anna) ∷ stage 1 (make path_e) ∷ pumps 4 ++ stage 1 (make path_f) ∷ Within StartSnapshot ∷ pumps 5

-- the device calls up to there
abbrev pub snapshot_calls : List DeviceCall
snapshot_calls = Write ∷ Sync ∷ Write ∷ Sync ∷ Write ∷ Sync ∷ Write ∷ Sync ∷ Write ∷ []

-- the answers up to there
abbrev pub snapshot_answers : List Pumped
snapshot_answers = Moved ∷ Moved ∷ Moved ∷ Settled ∷ Moved ∷ Moved ∷ Moved ∷ Moved ∷ Moved ∷ []

-- a crash that leaves the gate closed finds the old file
abbrev pub SnapshotTornClosed : Type 0
SnapshotTornClosed = Shows (half_a_snapshot ++ Crash StaysClosed ∷ look_again) snapshot_calls snapshot_answers
    (Session 1 ∷ Place 1 ∷ Session 1 ∷ Children (codes "e" ∷ []) ∷ [])

-- one that leaves it open finds the new file
abbrev pub SnapshotTornOpen : Type 0
SnapshotTornOpen =
    Shows (half_a_snapshot ++ Crash IsOpen ∷ look_again) snapshot_calls snapshot_answers
    (Session 1 ∷ Place 1 ∷ Place 2 ∷ Session 1 ∷ Children (codes "e" ∷ codes "f" ∷ []) ∷ [])

-- with a sixth pump the snapshot is durable, whatever the crash leaves
abbrev pub SnapshotSettled : Type 0
SnapshotSettled =
    Shows (half_a_snapshot ++ pumps 1 ++ Crash StaysClosed ∷ look_again) (snapshot_calls ++ Sync ∷ []) (snapshot_answers ++ Settled ∷ [])
    (Session 1 ∷ Place 1 ∷ Place 2 ∷ Session 1 ∷ Children (codes "e" ∷ codes "f" ∷ []) ∷ [])

-- one project is durable and its ticket outstanding, a second staged, and the write of its body fails
abbrev pub a_failed_write : List Event
a_failed_write = stage 0 (Join anna) ∷ stage 1 (make path_e) ∷ pumps 4 ++ stage 1 (make path_f) ∷ Within Fault ∷ []

-- no more commands are staged, and a pump does nothing, but the first reply is handed out; the second is forgotten, and lost in the crash
pub record FailedWrite : Type 0 where
  pub no_stage : Allows ten_bytes (after_events a_failed_write) (Stage 1 (make path_f)) → ⊥
  pub no_pump : Allows ten_bytes (after_events a_failed_write) Pump → ⊥
  pub untold : Allows ten_bytes (after_events a_failed_write) (Tell 2) → ⊥
  pub goes_on :
      Shows (a_failed_write ++ Within (Tell 1) ∷ Within (Forget 2) ∷ Crash StaysClosed ∷ look_again) (Write ∷ Sync ∷ Write ∷ Sync ∷ [])
      (Moved ∷ Moved ∷ Moved ∷ Settled ∷ [])
      (Session 1 ∷ Place 1 ∷ Session 1 ∷ Children (codes "e" ∷ []) ∷ [])

-- all of them
pub record Rows : Type 0 where
  pub two_sessions_one_frame : TwoSessionsOneFrame
  pub nothing_for_good : NothingForGood
  pub torn_gate_closed : TornGateClosed
  pub torn_gate_open : TornGateOpen
  pub told_stands : ToldStands
  pub hold_goes : HoldGoes
  pub snapshot_torn_closed : SnapshotTornClosed
  pub snapshot_torn_open : SnapshotTornOpen
  pub snapshot_settled : SnapshotSettled
  pub failed_write : FailedWrite
