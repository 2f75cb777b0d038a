-- A run that reaches what is seen of a vault goes on to what is seen of it later.
use Rattle.std.proofs.Common.{◌≡◌, ◌≤◌, ◌&&◌, Bool, true, false, cond, List, [], ◌∷◌, ◌++◌, map, sym, ap, ◌∙◌, subst, arith, append_assoc}
use Rattle.std.proofs.lemmas.List.{append-nil, map-append}
use Rattle.vault_state.specs.Vault.{Vault, durable}
use Rattle.vault_device.specs.declared.history.Pick.{Pick}
use Rattle.vault_store.specs.Phases.{is_opening}
use Rattle.group_commit.specs.World.{World, new_world, Act, StaysClosed, IsOpen, kept_by, crashed}
use Rattle.group_commit.specs.Runs.{Event, Within, Crash, AllowsEvent, happened, run, IsRun}
use Rattle.group_commit.specs.View.{View, view_of, opened_view, view_at, ViewAllows, view_acted, MayLeave}
use Rattle.group_commit.specs.Seen.{snapshot_length}
use Rattle.group_commit.proofs.Sound.{IsSound, after_run, run-append}
use Rattle.group_commit.proofs.Stays.{keeps_settled}
use Rattle.group_commit.proofs.ViewLaw.{view_at_is, acts_as}
use Rattle.group_commit.proofs.Recovery.{crashed_view, left_is_recovered}
use Rattle.vault_device.specs.Picks.{gives_one}
use Rattle.vault_protocol.specs.ScriptLaws.{IsRunTo, GoesOnTo, ActsOnTo, gate_of}
use Rattle.vault_protocol.proofs.ScriptRuns.{KeepsActs, KeepsOpenings}

-- the world after these events
abbrev world_after : List Event → World
world_after events = run snapshot_length new_world events

-- one more event after a run
one_longer : (w : World) (events : List Event) (event : Event) → IsRun snapshot_length w events → AllowsEvent snapshot_length (run snapshot_length w events) event → IsRun snapshot_length w (events ++ event ∷ [])
one_longer w [] event r a = (a, tt)
one_longer w (x ∷ xs) event r a = (r.0, one_longer (happened snapshot_length w x) xs event r.1 a)

one_more : (events : List Event) (event : Event) → IsRun snapshot_length new_world events → AllowsEvent snapshot_length (world_after events) event
    → IsRunTo (events ++ event ∷ []) (view_of (happened snapshot_length (world_after events) event))
one_more events event r a = record {
  is_run = one_longer new_world events event r a;
  reaches = ap view_of (run-append snapshot_length new_world events (event ∷ []));
}

act_more : (events : List Event) (view : View) (act : Act) → IsRunTo events view → ViewAllows snapshot_length view act → IsRunTo (events ++ Within act ∷ []) (view_acted snapshot_length view act)
act_more events view act r a =
    let law = acts_as snapshot_length (world_after events) act (after_run snapshot_length events r.is_run) in
    let allowed = law.allowed.1 (subst (λ (v : View). ViewAllows snapshot_length v act) (sym r.reaches) a) in
    subst (IsRunTo (events ++ Within act ∷ [])) (law.after allowed ∙ ap (λ (v : View). view_acted snapshot_length v act) r.reaches) (one_more events (Within act) r.is_run allowed)

-- Acts alone.

pub acts_on : (events : List Event) → KeepsActs (ActsOnTo events)
acts_on events = record { acts = one_act }
  where
    one_act : (view : View) (act : Act) → ActsOnTo events view → ViewAllows snapshot_length view act → ActsOnTo events (view_acted snapshot_length view act)
    one_act view act g a =
        let same : events ++ map Within g.0 ++ Within act ∷ [] ≡ events ++ map Within (g.0 ++ act ∷ []) =
        append_assoc events (map Within g.0) (Within act ∷ []) ∙ ap (λ more. events ++ more) (sym (map-append Within g.0 (act ∷ []))) in
        (g.0 ++ act ∷ [], subst (λ all. IsRunTo all (view_acted snapshot_length view act)) same (act_more (events ++ map Within g.0) view act g.1 a))

pub no_acts : (events : List Event) (view : View) → IsRunTo events view → ActsOnTo events view
no_acts events view r = ([], subst (λ all. IsRunTo all view) (sym (append-nil events)) r)

-- Any events.

pub events_on : (events : List Event) → KeepsActs (GoesOnTo events)
events_on events = record { acts = one_act }
  where
    one_act : (view : View) (act : Act) → GoesOnTo events view → ViewAllows snapshot_length view act → GoesOnTo events (view_acted snapshot_length view act)
    one_act view act g a = (
      g.0 ++ Within act ∷ [],
      subst (λ all. IsRunTo all (view_acted snapshot_length view act)) (append_assoc events g.0 (Within act ∷ [])) (act_more (events ++ g.0) view act g.1 a),
    )

pub stops_on : (events : List Event) → KeepsOpenings (GoesOnTo events)
stops_on events = record { opens = one_stop }
  where
    one_stop : (view : View) (left : Vault) → GoesOnTo events view → MayLeave view left → GoesOnTo events (opened_view left)
    one_stop view left g may =
        let w : World = world_after (events ++ g.0) in
        let found = left_is_recovered w left (after_run snapshot_length (events ++ g.0) g.1.is_run) (subst (λ (v : View). MayLeave v left) (sym g.1.reaches) may) in
        let opened = crashed_view w found.0 ∙ ap opened_view (sym found.1) in
        let longer = one_more (events ++ g.0) (Crash found.0) g.1.is_run tt in (
          g.0 ++ Crash found.0 ∷ [],
          subst (λ all. IsRunTo all (opened_view left)) (append_assoc events g.0 (Crash found.0 ∷ []))
              (subst (IsRunTo (events ++ g.0 ++ Crash found.0 ∷ [])) opened longer),
        )

pub no_events : (events : List Event) (view : View) → IsRunTo events view → GoesOnTo events view
no_events events view r = ([], subst (λ all. IsRunTo all view) (sym (append-nil events)) r)

-- One crash.

-- the vault after a crash that leaves a gate open or closed
abbrev left_by : Bool → View → Vault
left_by finds_open view = durable (view_at view (cond (finds_open && is_opening view.phase) view.sealed view.settled))

stop_view : (finds_open : Bool) (w : World) → IsSound w → view_of (crashed w (cond finds_open IsOpen StaysClosed)) ≡ opened_view (left_by finds_open (view_of w))
stop_view true w s =
    let kept : w.settled ≤ kept_by w IsOpen = keeps_settled w IsOpen s in
    let retired : w.retired ≤ w.settled = s.order.retired_settled in
    crashed_view w IsOpen ∙ ap (λ v. opened_view (durable v)) (sym (view_at_is w (kept_by w IsOpen) (omega (arith, kept, retired))))
stop_view false w s = crashed_view w StaysClosed ∙ ap (λ v. opened_view (durable v)) (sym (view_at_is w w.settled s.order.retired_settled))

pub stop_more : (events : List Event) (view : View) (pick : Pick) → IsRunTo events view → IsRunTo (events ++ Crash (gate_of pick) ∷ []) (opened_view (left_by (gives_one pick) view))
stop_more events view pick r =
    let w : World = world_after events in
    let seen = stop_view (gives_one pick) w (after_run snapshot_length events r.is_run) ∙ ap (λ (v : View). opened_view (left_by (gives_one pick) v)) r.reaches in
    subst (IsRunTo (events ++ Crash (gate_of pick) ∷ [])) seen (one_more events (Crash (gate_of pick)) r.is_run tt)
