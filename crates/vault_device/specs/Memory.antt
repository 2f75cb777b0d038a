-- A disk in memory, as its history determines it.
use Rattle.std.specs.Prelude.{◌≡◌, ◌⊎◌, ℕ, ◌+◌, ◌≤◌, max, Bool, true, false, List, [], ◌∷◌, length, replicate}
use Rattle.vault_device.specs.Disk.{overwritten, IsTorn}
use Rattle.vault_device.specs.declared.history.Event.{Event as EventOver}
use Rattle.vault_device.specs.declared.history.Event.TheVariants.{Wrote, Synced, Crashed}
use Rattle.vault_device.specs.declared.history.Pick.{Pick}
use Rattle.vault_device.specs.declared.history.Pick.TheVariants.{Old, New, Bytes}

-- what was done once; a history has the latest first
abbrev pub Event : Type 0
Event = EventOver (List ℕ)

-- what a history leads to
pub record Content : Type 0 where
  pub shown : List ℕ
  pub settled : List ℕ
  -- what would be shown if each write since the last sync or crash had written only this byte
  pub filled : ℕ → List ℕ

-- what a crash with this pick leaves
abbrev pub picked : Pick → Content → List ℕ
picked Old content = content.settled
picked New content = content.shown
picked (Bytes b) content = content.filled b

-- all of these bytes are durable
abbrev pub at_rest : List ℕ → Content
at_rest bytes = record { shown = bytes; settled = bytes; filled = λ b. bytes }

-- one more write, not durable yet
abbrev pub written : ℕ → List ℕ → Content → Content
written at bytes content = record {
  shown = overwritten content.shown at bytes;
  settled = content.settled;
  filled = λ b. overwritten (content.filled b) at (replicate (length bytes) b);
}

-- the content after these events
abbrev pub content_of : List Event → Content
content_of [] = at_rest []
content_of (Wrote at bytes ∷ earlier) = written at bytes (content_of earlier)
content_of (Synced ∷ earlier) = at_rest (content_of earlier).shown
content_of (Crashed pick ∷ earlier) = at_rest (picked pick (content_of earlier))

-- a crash now may leave this
abbrev pub IsImageOf : List Event → List ℕ → Type 0
IsImageOf [] x = x ≡ []
IsImageOf (Wrote at bytes ∷ earlier) x = (y : List ℕ) × IsImageOf earlier y × IsTorn at (length bytes) y x
IsImageOf (Synced ∷ earlier) x = x ≡ (content_of earlier).shown
IsImageOf (Crashed pick ∷ earlier) x = x ≡ picked pick (content_of earlier)

-- a crash since there were t events might have left this
abbrev pub WasImageOf : List Event → ℕ → List ℕ → Type 0
WasImageOf [] t x = IsImageOf [] x
WasImageOf (event ∷ earlier) t x = IsImageOf (event ∷ earlier) x ⊎ ((t ≤ length earlier) × WasImageOf earlier t x)

-- nothing was written since the last sync or crash
abbrev pub is_at_rest : List Event → Bool
is_at_rest [] = true
is_at_rest (Wrote at bytes ∷ earlier) = false
is_at_rest (Synced ∷ earlier) = true
is_at_rest (Crashed pick ∷ earlier) = true

-- the history with a sync, which does nothing where all is durable
abbrev pub after_sync : List Event → List Event
after_sync [] = []
after_sync (Wrote at bytes ∷ earlier) = Synced ∷ Wrote at bytes ∷ earlier
after_sync (Synced ∷ earlier) = Synced ∷ earlier
after_sync (Crashed pick ∷ earlier) = Crashed pick ∷ earlier

-- the history with a crash, which does nothing where all is durable
abbrev pub after_crash : Pick → List Event → List Event
after_crash pick [] = []
after_crash pick (Wrote at bytes ∷ earlier) = Crashed pick ∷ Wrote at bytes ∷ earlier
after_crash pick (Synced ∷ earlier) = Synced ∷ earlier
after_crash pick (Crashed other ∷ earlier) = Crashed other ∷ earlier

-- the bytes after these events, oldest first, if each write had written only this byte
abbrev pub covered : ℕ → List Event → List ℕ → List ℕ
covered b [] x = x
covered b (Wrote at bytes ∷ later) x = covered b later (overwritten x at (replicate (length bytes) b))
covered b (Synced ∷ later) x = covered b later x
covered b (Crashed pick ∷ later) x = covered b later x

-- what a crash with this pick leaves, by what is shown, what is durable and the events since then
abbrev pub left : Pick → List ℕ → List ℕ → List Event → List ℕ
left Old shown settled later = settled
left New shown settled later = shown
left (Bytes b) shown settled later = covered b later settled

-- the writes among these events leave no gap, and lead from this length to that
abbrev pub LeadsTo : ℕ → ℕ → List Event → Type 0
LeadsTo len total [] = len ≡ total
LeadsTo len total (Wrote at bytes ∷ later) = (at ≤ len) × LeadsTo (max len (at + length bytes)) total later
LeadsTo len total (Synced ∷ later) = LeadsTo len total later
LeadsTo len total (Crashed pick ∷ later) = LeadsTo len total later
