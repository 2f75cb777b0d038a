-- The disk model: what a device shows, and what its calls and a crash may do to it.
use Rattle.std.specs.Prelude.{◌≡◌, ◌⊎◌, ℕ, ◌+◌, ◌-◌, ◌<◌, ◌≤◌, ◌^◌, min, max, Bool, List, ◌++◌, length, take, drop, slice_index, Result, IsErr, OnOk}

-- What a device shows. What contracts say of its bytes holds only of an honest device.
pub record Disk : Type 1 where
  pub honest : Bool
  -- what a read gives
  pub shown : List ℕ
  -- what a read gave when it was made, at its last crash or at its last successful sync
  pub settled : List ℕ
  -- a crash now may leave this
  pub IsImage : List ℕ → Type 0
  -- a number that never decreases
  pub moment : ℕ
  -- a crash at that moment or later might have left this
  pub WasImage : ℕ → List ℕ → Type 0
  pub calls : ℕ
  pub faults : ℕ

-- bytes written over others from an offset on, and past their end
abbrev pub overwritten : List ℕ → ℕ → List ℕ → List ℕ
overwritten old at bytes = take at old ++ bytes ++ drop (at + length bytes) old

-- What a crash makes of a write of n bytes that isn't durable: any bytes in its range and past the old end, any length from the
-- old one to the new one, and the same bytes elsewhere.
pub record IsTorn (at n : ℕ) (old new : List ℕ) : Type 0 where
  pub no_shorter : length old ≤ length new
  pub no_longer : length new ≤ max (length old) (at + n)
  pub before : (i : ℕ) → i < length old → i < at → slice_index new i ≡ slice_index old i
  pub behind : (i : ℕ) → i < length old → at + n ≤ i → slice_index new i ≡ slice_index old i

-- what a crash may leave in a write of n bytes: the write torn, over what could be left before it
abbrev pub IsTornImage : Disk → ℕ → ℕ → List ℕ → Type 0
IsTornImage disk at n x = (y : List ℕ) × disk.IsImage y × IsTorn at n y x

-- a crash leaves these bytes and nothing else
abbrev pub LeavesOnly : Disk → List ℕ → Type 0
LeavesOnly disk bytes = (x : List ℕ) → disk.IsImage x → x ≡ bytes

-- the counts of calls and of faults stop here
abbrev pub last_count : ℕ
last_count = 2 ^ 64 - 1

-- Time goes on. What a crash since a moment might have left is what it might have left before this call, or what a crash inside
-- the call leaves (`Inside`).
pub record Elapses (old new : Disk) (Inside : List ℕ → Type 0) : Type 0 where
  pub later : old.moment ≤ new.moment
  pub nothing_else : (t : ℕ) (x : List ℕ) → t ≤ old.moment → new.WasImage t x → old.WasImage t x ⊎ Inside x
  pub keeps : (t : ℕ) (x : List ℕ) → t ≤ old.moment → old.WasImage t x → new.WasImage t x

-- One call was counted. A fault is returned only if it was counted or the count is full, and counted only if it is returned.
pub record IsOneCall {A E : Type 0} (old new : Disk) (result : Result A E) : Type 0 where
  pub same_honesty : new.honest ≡ old.honest
  pub counted : new.calls ≡ min (old.calls + 1) last_count
  pub no_fewer_faults : old.faults ≤ new.faults
  pub fault_count : new.faults ≤ last_count
  pub cause : IsErr result → (old.faults < new.faults) ⊎ (new.faults ≡ last_count)
  pub no_fault : OnOk result (new.faults ≡ old.faults)

-- what is shown and what is durable is as it was, and a crash may leave nothing new
pub record IsRead (old new : Disk) : Type 0 where
  pub shown : new.shown ≡ old.shown
  pub settled : new.settled ≡ old.settled
  pub images : (x : List ℕ) → new.IsImage x → old.IsImage x
  pub time : Elapses old new old.IsImage

-- the bytes were written there and aren't durable yet; after a fault, too, a crash may leave the write torn
pub record IsWrite {E : Type 0} (at : ℕ) (bytes : List ℕ) (result : Result (Unit {0}) E) (old new : Disk) : Type 0 where
  pub shown : OnOk result (new.shown ≡ overwritten old.shown at bytes)
  pub settled : new.settled ≡ old.settled
  pub images : (x : List ℕ) → new.IsImage x → IsTornImage old at (length bytes) x
  pub time : Elapses old new (IsTornImage old at (length bytes))

-- what a read gives is durable; after a fault, a crash may leave no more than before
pub record IsSync {E : Type 0} (result : Result (Unit {0}) E) (old new : Disk) : Type 0 where
  pub shown : new.shown ≡ old.shown
  pub settled : OnOk result (new.settled ≡ old.shown)
  pub unsettled : IsErr result → new.settled ≡ old.settled
  pub durable : OnOk result (LeavesOnly new old.shown)
  pub images : (x : List ℕ) → new.IsImage x → old.IsImage x
  pub time : Elapses old new old.IsImage

-- what holds of an honest device at any time
pub record IsLawful (disk : Disk) : Type 0 where
  pub read : disk.IsImage disk.shown
  pub now : (t : ℕ) (x : List ℕ) → t ≤ disk.moment → disk.IsImage x → disk.WasImage t x
  pub only_now : (x : List ℕ) → disk.WasImage disk.moment x → disk.IsImage x

-- a crash at any moment since old leaves bytes with P
pub record LeavesSince (old new : Disk) (P : List ℕ → Type 0) : Type 0 where
  pub later : old.moment ≤ new.moment
  pub each : (x : List ℕ) → new.WasImage old.moment x → P x
  -- for a run that began earlier
  pub earlier : (t : ℕ) (x : List ℕ) → t ≤ old.moment → new.WasImage t x → old.WasImage t x ⊎ P x
