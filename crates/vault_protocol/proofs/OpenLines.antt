-- The lines that wait for a reply wait for open entries, in their order.
use Rattle.std.proofs.Common.{◌≡◌, ◌≢◌, ℕ, suc, ◌+◌, ◌-◌, ◌<◌, ◌≤◌, List, [], ◌∷◌, ◌++◌, length, drop, Some, refl, ap, ◌∙◌, arith}
use Rattle.std.specs.Prelude.{filter}
use Rattle.group_commit.specs.declared.mark.Mark.{Mark}
use Rattle.group_commit.specs.declared.mark.Mark.TheVariants.{Open}
use Rattle.group_commit.specs.Entries.{Entry, Kept, opened, mark_at, with_mark}
use Rattle.group_commit.proofs.Marks.{mark_other, mark_below, mark_front}
use Rattle.vault_protocol.specs.Talk.{Line, Known, Awaited, is_known}

-- the entry at a position from here on is open
pub record IsOpenAt (kept : List Kept) (retired from position : ℕ) : Type 0 where
  pub reached : from ≤ position
  pub is_open : mark_at kept (position - retired) ≡ Some Open

-- the waiting lines wait for open entries, from a position on, each later than the one before
abbrev pub AreOpen : List Kept → ℕ → ℕ → List Line → Type 0
AreOpen kept retired from [] = Unit {0}
AreOpen kept retired from (Known text ∷ lines) = AreOpen kept retired from lines
AreOpen kept retired from (Awaited connection position ∷ lines) = IsOpenAt kept retired from position × AreOpen kept retired (position + 1) lines

-- the waiting lines wait for entries below this position
abbrev pub AreBelow : ℕ → List Line → Type 0
AreBelow bound [] = Unit {0}
AreBelow bound (Known text ∷ lines) = AreBelow bound lines
AreBelow bound (Awaited connection position ∷ lines) = (position < bound) × AreBelow bound lines

pub none_open : (lines : List Line) → AreOpen [] 0 0 (filter is_known lines)
none_open [] = tt
none_open (Known text ∷ lines) = none_open lines
none_open (Awaited connection position ∷ lines) = none_open lines

pub open_from : (kept : List Kept) (retired from earlier : ℕ) (lines : List Line) → earlier ≤ from → AreOpen kept retired from lines → AreOpen kept retired earlier lines
open_from kept retired from earlier [] h o = tt
open_from kept retired from earlier (Known text ∷ lines) h o = open_from kept retired from earlier lines h o
open_from kept retired from earlier (Awaited connection position ∷ lines) h o =
    let here : from ≤ position = o.0.reached in
    (record { reached = omega (arith, h, here); is_open = o.0.is_open }, o.1)

pub with_known : (kept : List Kept) (retired from : ℕ) (text : List ℕ) (lines : List Line) → AreOpen kept retired from lines → AreOpen kept retired from (lines ++ Known text ∷ [])
with_known kept retired from text [] o = tt
with_known kept retired from text (Known other ∷ lines) o = with_known kept retired from text lines o
with_known kept retired from text (Awaited connection position ∷ lines) o = (o.0, with_known kept retired (position + 1) text lines o.1)

-- a mark before the lines' entries
pub still_open : (m : Mark) (kept : List Kept) (retired from position : ℕ) (lines : List Line) → retired ≤ position → position < from → AreOpen kept retired from lines
    → AreOpen (with_mark m kept (position - retired)) retired from lines
still_open m kept retired from position [] h before o = tt
still_open m kept retired from position (Known text ∷ lines) h before o = still_open m kept retired from position lines h before o
still_open m kept retired from position (Awaited connection later ∷ lines) h before o =
    let here : from ≤ later = o.0.reached in (
      record {
        reached = here;
        is_open = mark_other m kept (position - retired) (later - retired) (λ e. omega (arith, e, h, before, here)) ∙ o.0.is_open;
      },
      still_open m kept retired (later + 1) position lines h (omega (arith, before, here)) o.1,
    )

last_open : (kept : List Kept) (entry : Entry) → mark_at (kept ++ opened entry ∷ []) (length kept) ≡ Some Open
last_open [] entry = refl
last_open (x ∷ xs) entry = last_open xs entry

-- one more entry, and a line that waits for its reply
pub with_awaited : (kept : List Kept) (entry : Entry) (retired from connection : ℕ) (lines : List Line) → retired ≤ from → from ≤ retired + length kept
    → AreOpen kept retired from lines → AreOpen (kept ++ opened entry ∷ []) retired from (lines ++ Awaited connection (retired + length kept) ∷ [])
with_awaited kept entry retired from connection [] h within o =
    let place : retired + length kept - retired ≡ length kept = omega arith in
    (record { reached = within; is_open = ap (mark_at (kept ++ opened entry ∷ [])) place ∙ last_open kept entry }, tt)
with_awaited kept entry retired from connection (Known text ∷ lines) h within o = with_awaited kept entry retired from connection lines h within o
with_awaited kept entry retired from connection (Awaited other position ∷ lines) h within o =
    let here : from ≤ position = o.0.reached in
    let below : position - retired < length kept = mark_below kept (position - retired) Open o.0.is_open in (
      record { reached = here; is_open = mark_front kept (opened entry ∷ []) (position - retired) below ∙ o.0.is_open },
      with_awaited kept entry retired (position + 1) connection lines (omega (arith, h, here)) (omega (arith, h, here, below)) o.1,
    )

mark_behind : (kept : List Kept) (place : ℕ) → mark_at (drop 1 kept) place ≡ mark_at kept (suc place)
mark_behind [] place = refl
mark_behind (x ∷ rest) place = refl

-- no line waits for the oldest entry if that isn't open
later_open : (kept : List Kept) (retired : ℕ) (lines : List Line) → mark_at kept 0 ≢ Some Open → AreOpen kept retired retired lines → AreOpen kept retired (retired + 1) lines
later_open kept retired [] closed o = tt
later_open kept retired (Known text ∷ lines) closed o = later_open kept retired lines closed o
later_open kept retired (Awaited connection position ∷ lines) closed o =
    let here : retired ≤ position = o.0.reached in
    let other : position ≢ retired = λ same. let first : 0 ≡ position - retired = omega (arith, same) in closed (ap (mark_at kept) first ∙ o.0.is_open) in
    (record { reached = omega (arith, here, other); is_open = o.0.is_open }, o.1)

shifted_open : (kept : List Kept) (retired from : ℕ) (lines : List Line) → retired + 1 ≤ from → AreOpen kept retired from lines → AreOpen (drop 1 kept) (retired + 1) from lines
shifted_open kept retired from [] h o = tt
shifted_open kept retired from (Known text ∷ lines) h o = shifted_open kept retired from lines h o
shifted_open kept retired from (Awaited connection position ∷ lines) h o =
    let here : from ≤ position = o.0.reached in
    let place : suc (position - (retired + 1)) ≡ position - retired = omega (arith, h, here) in (
      record { reached = here; is_open = mark_behind kept (position - (retired + 1)) ∙ ap (mark_at kept) place ∙ o.0.is_open },
      shifted_open kept retired (position + 1) lines (omega (arith, h, here)) o.1,
    )

-- the oldest entry, which isn't open, was dropped
pub open_behind : (kept : List Kept) (retired : ℕ) (lines : List Line) → mark_at kept 0 ≢ Some Open → AreOpen kept retired retired lines
    → AreOpen (drop 1 kept) (retired + 1) (retired + 1) lines
open_behind kept retired lines closed o = shifted_open kept retired (retired + 1) lines (omega arith) (later_open kept retired lines closed o)

pub open_below : (kept : List Kept) (retired from : ℕ) (lines : List Line) → retired ≤ from → AreOpen kept retired from lines → AreBelow (retired + length kept) lines
open_below kept retired from [] h o = tt
open_below kept retired from (Known text ∷ lines) h o = open_below kept retired from lines h o
open_below kept retired from (Awaited connection position ∷ lines) h o =
    let here : from ≤ position = o.0.reached in
    let below : position - retired < length kept = mark_below kept (position - retired) Open o.0.is_open in
    (omega (arith, h, here, below), open_below kept retired (position + 1) lines (omega (arith, h, here)) o.1)
