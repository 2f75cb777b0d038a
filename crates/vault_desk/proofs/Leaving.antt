-- What was seen of a vault, and how sessions left it.
use Rattle.std.proofs.Common.{◌≡◌, ℕ, true, List, [], ◌∷◌, ◌++◌, length, Some, slice_get, refl, sym, subst, inl, inr}
use mathlib.Core.List.{IsPrefix}
use Rattle.group_commit.specs.World.{Act, Stage, Pump, Fault, StartSnapshot, Tell, Forget, Retire}
use Rattle.group_commit.specs.View.{View, view_acted}
use Rattle.group_commit.specs.Seen.{snapshot_length}
use Rattle.group_commit.specs.Ticket.{TicketSeen, Told}
use Rattle.group_commit.specs.Positions.{HasTold}
use Rattle.vault_desk.specs.Acts.{view_after, GoesOn}
use Rattle.vault_desk.specs.Sights.{WentThrough, Saw, IsStaged, WasStaged, WasTold, WasLeft, WasBroken, HasItsLeave, Leaves, LeavesNoneOpen}
use Rattle.vault_desk.proofs.Prefixes.{prefix_get, last_at}
use Rattle.vault_desk.proofs.Seeing.{staged_in, went_at}

-- what was shown last was seen, and is seen in all that was seen since
pub saw_last : (before shown new : List View) (v : View) → shown ≡ before ++ v ∷ [] → IsPrefix shown new → Saw new v
saw_last before shown new v is p = record {
  place = length before;
  is_seen = prefix_get shown new (length before) v p (subst (λ (l : List View). slice_get l (length before) ≡ Some v) (sym is) (last_at before v));
}

pub saw_staged : (seen : List View) (v : View) (claim : TicketSeen) → Saw seen v → IsStaged v claim → WasStaged seen claim
saw_staged seen v claim s h = record { place = s.place; view = v; is_seen = s.is_seen; staged = h }

pub saw_told : (seen : List View) (v : View) (told : Told) → Saw seen v → HasTold v told → WasTold seen told
saw_told seen v told s h = record { place = s.place; view = v; is_seen = s.is_seen; has = h }

pub saw_broken : (seen : List View) (v : View) → Saw seen v → v.broken ≡ true → WasBroken seen
saw_broken seen v s h = record { place = s.place; view = v; is_seen = s.is_seen; broken = h }

-- a leave that was seen is seen in all that was seen since
pub left_in : (xs ys : List View) (session : ℕ) → IsPrefix xs ys → HasItsLeave xs session → HasItsLeave ys session
left_in xs ys session p (inl none) = inl none
left_in xs ys session p (inr (inl h)) =
    inr (inl (record { claim = h.claim; is_leave = h.is_leave; of_session = h.of_session; staged = staged_in xs ys h.claim p h.staged }))
left_in xs ys session p (inr (inr h)) =
    inr (inr (record { place = h.place; view = h.view; is_seen = prefix_get xs ys h.place h.view p h.is_seen; broken = h.broken }))

-- a broken vault stays so
broken_acted : (v : View) (act : Act) → v.broken ≡ true → (view_acted snapshot_length v act).broken ≡ true
broken_acted v (Stage session command) e = e
broken_acted v Pump e = e
broken_acted v Fault e = refl
broken_acted v StartSnapshot e = e
broken_acted v (Tell position) e = e
broken_acted v (Forget position) e = e
broken_acted v Retire e = e

broken_after : (v : View) (acts : List Act) → v.broken ≡ true → (view_after v acts).broken ≡ true
broken_after v [] e = e
broken_after v (act ∷ earlier) e = broken_acted (view_after v earlier) act (broken_after v earlier e)

pub stays_broken : (old new : View) → GoesOn old new → old.broken ≡ true → new.broken ≡ true
stays_broken old new on e = subst (λ (v : View). v.broken ≡ true) on.leads (broken_after old on.acts e)

-- what was seen of a session's leave is so of each vault that went through what was seen
pub leaves_of : (old new : View) (seen : List View) (session : ℕ) → WentThrough old new seen → HasItsLeave seen session → LeavesNoneOpen old new session
leaves_of old new seen session went (inl none) = inl none
leaves_of old new seen session went (inr (inl h)) =
    let on = went_at old new seen h.staged.place h.staged.view went h.staged.is_seen in
    inr (inl (record {
      claim = h.claim;
      is_leave = h.is_leave;
      of_session = h.of_session;
      between = h.staged.view;
      before = on.0;
      staged = h.staged.staged;
      after = on.1;
    }))
leaves_of old new seen session went (inr (inr h)) =
    inr (inr (stays_broken h.view new (went_at old new seen h.place h.view went h.is_seen).1 h.broken))

-- a session's leave that was seen, and a broken vault
pub has_left : (seen : List View) (session left : ℕ) → session ≡ left → WasLeft seen session → HasItsLeave seen left
has_left seen session left same h = inr (inl (subst (WasLeft seen) same h))

pub broke_before : (seen : List View) (session : ℕ) → WasBroken seen → HasItsLeave seen session
broke_before seen session h = inr (inr h)
