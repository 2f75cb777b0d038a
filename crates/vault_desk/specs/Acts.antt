-- By which acts a vault goes on from one view to another, and that these are a run. This project's own.
use Rattle.std.specs.Prelude.{◌≡◌, List, [], ◌∷◌, ◌++◌}
use Rattle.vault_state.specs.Vault.{Vault, IsVault, CountsBelow}
use Rattle.group_commit.specs.World.{Act, world_of}
use Rattle.group_commit.specs.Runs.{Event, Within, run, IsRun}
use Rattle.group_commit.specs.View.{View, view_of, ViewAllows, view_acted}
use Rattle.group_commit.specs.Seen.{snapshot_length}

-- the view after these acts, the latest first
abbrev pub view_after : View → List Act → View
view_after v [] = v
view_after v (act ∷ earlier) = view_acted snapshot_length (view_after v earlier) act

-- each of these acts, the latest first, was allowed after those before it
abbrev pub AreAllowed : View → List Act → Type 0
AreAllowed v [] = Unit {0}
AreAllowed v (act ∷ earlier) = ViewAllows snapshot_length (view_after v earlier) act × AreAllowed v earlier

-- a vault of one view came to the other by acts alone, each allowed where it stood: nothing was lost, and nothing else came in
pub record GoesOn (old new : View) : Type 0 where
  pub acts : List Act
  pub allowed : AreAllowed old acts
  pub leads : view_after old acts ≡ new

-- the events of these acts, the latest of which is the first of the list
abbrev pub events_of : List Act → List Event
events_of [] = []
events_of (act ∷ earlier) = events_of earlier ++ Within act ∷ []

-- Any run that reached the one view, over any lives, goes on by these acts, and so reaches the other: what was served is a piece of the
-- single history.
abbrev pub ActsAreARun : Type 0
ActsAreARun =
    (first : Vault) (events : List Event) (old new : View) (on : GoesOn old new) → IsVault first → CountsBelow 1 first
    → IsRun snapshot_length (world_of first) events → view_of (run snapshot_length (world_of first) events) ≡ old
    → IsRun snapshot_length (world_of first) (events ++ events_of on.acts)
    × (view_of (run snapshot_length (world_of first) (events ++ events_of on.acts)) ≡ new)
