-- What is promised of every run. The definitions of runs speak of the length of a snapshot; the laws hold whatever it is.
-- This project's own.
use Rattle.std.specs.Prelude.{◌≡◌, ◌↔◌, ◌⊎◌, ℕ, ◌+◌, ◌-◌, ◌<◌, ◌≤◌, IsTrue, true, false, List, ◌++◌, length, take, drop, Some, slice_get}
use Rattle.vault_state.specs.declared.claims.Claim.{Claim}
use Rattle.vault_state.specs.declared.claims.Standing.TheVariants.{Held}
use Rattle.vault_state.specs.declared.ids.ClaimId.{ClaimId}
use Rattle.vault_state.specs.declared.ids.ClaimId.TheVariants.{Long}
use Rattle.vault_state.specs.Claims.{same_id, overlap, claim_of, standing_of, without_short}
use Rattle.vault_state.specs.Vault.{Vault, IsVault, CountsBelow, new_vault, durable}
use Rattle.group_commit.specs.declared.mark.Mark.TheVariants.{Told}
use Rattle.group_commit.specs.Entries.{Entry, mark_at}
use Rattle.vault_format.specs.Files.{applied}
use Rattle.group_commit.specs.History.{Given, replay, IsLegal, effects}
use Rattle.vault_store.specs.Phases.{is_opening, is_idle}
use Rattle.group_commit.specs.Phases.{InOrder}
use Rattle.group_commit.specs.World.{World, new_world, history, vault_at, Act, row_of, Allows, acted, GateLeft, kept_by, crashed, recovered}
use Rattle.group_commit.specs.Runs.{Event, run, IsRun}
use Rattle.group_commit.specs.View.{View, view_of, opened_view, view_row, ViewAllows, view_acted, MayLeave}

-- what holds of the world after every run
abbrev pub AfterEveryRun : ((Vault → ℕ) → World → Type 0) → Type 0
AfterEveryRun P =
    (snapshot : Vault → ℕ) (events : List Event) → IsRun snapshot new_world events → P snapshot (run snapshot new_world events)

-- an act on a world is that act on its view: it is allowed exactly where the view allows it, a pump makes the same row of the table,
-- and the view of the world after the act is the view after the act
pub record ActsAsItsView (snapshot : Vault → ℕ) (w : World) (act : Act) : Type 0 where
  pub allowed : Allows snapshot w act ↔ ViewAllows snapshot (view_of w) act
  pub pumps : row_of snapshot w ≡ view_row snapshot (view_of w)
  pub after : Allows snapshot w act → view_of (acted snapshot w act) ≡ view_acted snapshot (view_of w) act

-- the acts of every world that a run reaches are those of its view
abbrev pub ActsAreOfTheView : Type 0
ActsAreOfTheView = AfterEveryRun (λ snapshot w. (act : Act) → ActsAsItsView snapshot w act)

-- the new world is seen as the new vault, opened; the world after a crash as what recovery gives, opened
abbrev pub CrashesOpen : Type 0
CrashesOpen =
    (view_of new_world ≡ opened_view new_vault)
    × ((w : World) (gate : GateLeft) → view_of (crashed w gate) ≡ opened_view (recovered w gate))

-- the history is legal from the new vault
abbrev pub HistoryIsLegal : Type 0
HistoryIsLegal = AfterEveryRun (λ snapshot w. IsLegal new_vault (history w))

-- this entry stands at a position of the history in its present life, and was acknowledged
pub record IsToldAt (w : World) (position : ℕ) (entry : Entry) : Type 0 where
  pub stands : slice_get (history w) position ≡ Some (Given entry)
  pub lives : length w.earlier ≤ position
  pub told : mark_at w.life (position - length w.earlier) ≡ Some Told

-- what was acknowledged at any point of a run stands at its position, with its reply, after any more events, crashes too
abbrev pub ToldStays : Type 0
ToldStays = (snapshot : Vault → ℕ) (events more : List Event) (position : ℕ) (entry : Entry) → IsRun snapshot new_world (events ++ more)
    → IsToldAt (run snapshot new_world events) position entry
    → slice_get (history (run snapshot new_world (events ++ more))) position ≡ Some (Given entry)

-- acknowledged entries are durable
abbrev pub ToldIsSettled : Type 0
ToldIsSettled = AfterEveryRun (λ snapshot w. (position : ℕ) → mark_at w.life position ≡ Some Told → position < w.settled)

-- the numbers of a life are in order, and after a failed device call a commit or a snapshot stays under way for good
pub record IsOrderly (w : World) : Type 0 where
  pub numbers : InOrder (length w.life) w.retired w.settled w.sealed w.phase
  pub busy : w.broken ≡ true → is_idle w.phase ≡ false

-- they are so after every run
abbrev pub WorldsAreOrderly : Type 0
WorldsAreOrderly = AfterEveryRun (λ snapshot w. IsOrderly w)

-- no two granted claims overlap
abbrev pub AreApart : Vault → Type 0
AreApart v = (a b : ClaimId) (c d : Claim) → same_id a b ≡ false → claim_of v.line a ≡ Some c → claim_of v.line b ≡ Some d
    → standing_of v.tree v.line a ≡ Some Held → standing_of v.tree v.line b ≡ Some Held → overlap v.tree c.items d.items ≡ false

-- a vault and its durable vault are well formed, no two granted claims of either overlap, and the vault's granted long claims are
-- granted in its durable vault
pub record IsGuarded (v : Vault) : Type 0 where
  pub well_formed : IsVault v
  pub durably : IsVault (durable v)
  pub apart : AreApart v
  pub durably_apart : AreApart (durable v)
  pub held : (n : ℕ) → standing_of v.tree v.line (Long n) ≡ Some Held → standing_of (durable v).tree (durable v).line (Long n) ≡ Some Held

-- the vault after each prefix of the history is so
abbrev pub PrefixesAreGuarded : Type 0
PrefixesAreGuarded = AfterEveryRun (λ snapshot w. (n : ℕ) → IsGuarded (replay new_vault (take n (history w))))

-- What recovery gives is the durable vault after one prefix of the history: up to the settled (durable) entries or, where a gate
-- (commit mark) was being opened and is found open, up to the sealed ones. That prefix has every acknowledged entry; the long claims
-- stand in their order, and the short ones are gone.
pub record IsPrefix (w : World) (gate : GateLeft) : Type 0 where
  pub cut : (kept_by w gate ≡ w.settled) ⊎ (IsTrue (is_opening w.phase) × (kept_by w gate ≡ w.sealed))
  pub prefix : recovered w gate ≡ durable (replay new_vault (take (length w.earlier + kept_by w gate) (history w)))
  pub told : (position : ℕ) → mark_at w.life position ≡ Some Told → position < kept_by w gate
  pub claims : (recovered w gate).line ≡ without_short (vault_at w (kept_by w gate)).line

-- recovery gives one prefix after every run
abbrev pub RecoveryGivesAPrefix : Type 0
RecoveryGivesAPrefix = AfterEveryRun (λ snapshot w. (gate : GateLeft) → IsPrefix w gate)

-- what a crash may leave, by the view, is what recovery gives, by the world
abbrev pub LeftIsRecovered : Type 0
LeftIsRecovered = AfterEveryRun (λ snapshot w. (left : Vault) → MayLeave (view_of w) left → (gate : GateLeft) × (left ≡ recovered w gate))

-- the effects of the entries from one point of the present life to a later one lead from the durable vault at the first point to the
-- one at the later point: a journal's frames hold these effects
abbrev pub EffectsAreTheChange : Type 0
EffectsAreTheChange =
    AfterEveryRun
    (λ snapshot w. (n m : ℕ) → n ≤ m
    → applied (durable (vault_at w n)) (effects (vault_at w n) (take (m - n) (drop n w.life))) ≡ Some (durable (vault_at w m)))

-- after the first n entries of a life, each session, and the door, has counted at most n commands
abbrev pub CountsAreOfTheLife : Type 0
CountsAreOfTheLife = AfterEveryRun (λ snapshot w. (n : ℕ) → CountsBelow (n + 1) (vault_at w n))

-- a view that some run reaches
pub record IsReachable (snapshot : Vault → ℕ) (view : View) : Type 0 where
  pub events : List Event
  pub is_run : IsRun snapshot new_world events
  pub reaches : view_of (run snapshot new_world events) ≡ view

-- the new vault's view is reachable; so is the view after each act that a reachable view allows, and the view of a vault that was
-- opened on what a crash may leave of a reachable one
pub record ReachableGoesOn (snapshot : Vault → ℕ) : Type 0 where
  pub begins : IsReachable snapshot (opened_view new_vault)
  pub acts : (view : View) (act : Act) → IsReachable snapshot view → ViewAllows snapshot view act
      → IsReachable snapshot (view_acted snapshot view act)
  pub opens : (view : View) (left : Vault) → IsReachable snapshot view → MayLeave view left → IsReachable snapshot (opened_view left)
