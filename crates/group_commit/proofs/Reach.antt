-- What is reachable goes on.
use Rattle.std.proofs.Common.{◌∷◌, ◌++◌, ℕ, List, [], refl, sym, ap, ◌∙◌, subst}
use Rattle.vault_state.specs.Vault.{Vault}
use Rattle.group_commit.specs.World.{World, new_world, Act}
use Rattle.group_commit.specs.Runs.{Event, Within, Crash, AllowsEvent, happened, run, IsRun}
use Rattle.group_commit.specs.View.{View, view_of, opened_view, ViewAllows, view_acted, MayLeave}
use Rattle.group_commit.specs.Laws.{IsReachable, ReachableGoesOn}
use Rattle.group_commit.proofs.Sound.{after_run, run-append}
use Rattle.group_commit.proofs.ViewLaw.{acts_as}
use Rattle.group_commit.proofs.Recovery.{crashed_view, left_is_recovered}

longer : (snapshot : Vault → ℕ) (w : World) (events : List Event) (event : Event) → IsRun snapshot w events → AllowsEvent snapshot (run snapshot w events) event → IsRun snapshot w (events ++ event ∷ [])
longer snapshot w [] event r a = (a, tt)
longer snapshot w (x ∷ xs) event r a = (r.0, longer snapshot (happened snapshot w x) xs event r.1 a)

one_more : (snapshot : Vault → ℕ) (view : View) (event : Event) (r : IsReachable snapshot view) → AllowsEvent snapshot (run snapshot new_world r.events) event
    → IsReachable snapshot (view_of (happened snapshot (run snapshot new_world r.events) event))
one_more snapshot view event r a = record {
  events = r.events ++ event ∷ [];
  is_run = longer snapshot new_world r.events event r.is_run a;
  reaches = ap view_of (run-append snapshot new_world r.events (event ∷ []));
}

acts : (snapshot : Vault → ℕ) (view : View) (act : Act) → IsReachable snapshot view → ViewAllows snapshot view act → IsReachable snapshot (view_acted snapshot view act)
acts snapshot view act r a =
    let w : World = run snapshot new_world r.events in
    let law = acts_as snapshot w act (after_run snapshot r.events r.is_run) in
    let allowed = law.allowed.1 (subst (λ (v : View). ViewAllows snapshot v act) (sym r.reaches) a) in
    subst (IsReachable snapshot) (law.after allowed ∙ ap (λ (v : View). view_acted snapshot v act) r.reaches) (one_more snapshot view (Within act) r allowed)

opens : (snapshot : Vault → ℕ) (view : View) (left : Vault) → IsReachable snapshot view → MayLeave view left → IsReachable snapshot (opened_view left)
opens snapshot view left r may =
    let w : World = run snapshot new_world r.events in
    let found = left_is_recovered w left (after_run snapshot r.events r.is_run) (subst (λ (v : View). MayLeave v left) (sym r.reaches) may) in
    subst (IsReachable snapshot) (crashed_view w found.0 ∙ ap opened_view (sym found.1)) (one_more snapshot view (Crash found.0) r tt)

pub reachable_goes_on : (snapshot : Vault → ℕ) → ReachableGoesOn snapshot
reachable_goes_on snapshot = record {
  begins = record { events = []; is_run = tt; reaches = refl };
  acts = acts snapshot;
  opens = opens snapshot;
}
