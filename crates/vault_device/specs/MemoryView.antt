-- What the fields of a memory stand for.
use Rattle.std.specs.Prelude.{◌≡◌, ◌==◌, ℕ, ◌<◌, ◌≤◌, List, length, take, drop, reverse, vec_capacity}
use Rattle.vault_device.specs.declared.memory.Memory.TheInside.{Inside}
use Rattle.vault_device.specs.Memory.{Event, content_of, covered, LeadsTo, is_at_rest}

-- what was done, the latest first
abbrev pub history_of : {A : Type 0} → Inside A → List Event
history_of memory = reverse memory.events.items

-- what was done since the last sync or crash, oldest first
abbrev pub since : {A : Type 0} → Inside A → List Event
since memory = drop memory.start memory.events.items

-- what the fields of a memory agree on
pub record IsMemory {A : Type 0} (memory : Inside A) : Type 0 where
  -- invariant 1 of src/lib.rt
  pub shown : memory.shown.items ≡ (content_of (history_of memory)).shown
  pub settled : memory.settled.items ≡ (content_of (history_of memory)).settled
  pub filled : (b : ℕ) → (content_of (history_of memory)).filled b ≡ covered b (since memory) memory.settled.items
  -- invariant 2
  pub leads : LeadsTo (length memory.settled.items) (length memory.shown.items) (since memory)
  pub start : memory.start ≤ length memory.events.items
  pub rest : (memory.start == length memory.events.items) ≡ is_at_rest (history_of memory)
  -- invariant 3: the bytes at the front that no write has touched
  pub clean : memory.clean ≤ length memory.settled.items
  pub same : take memory.clean memory.settled.items ≡ take memory.clean memory.shown.items
  -- invariant 4: a sync and a crash take no memory
  pub room : length memory.shown.items ≤ vec_capacity memory.settled
  pub slot : memory.start < length memory.events.items → length memory.events.items < vec_capacity memory.events
