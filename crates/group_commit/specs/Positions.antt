-- Where the entries of a life stand, and what receipts say of them. This project's own.
use Rattle.std.specs.Prelude.{◌≡◌, ℕ, ◌-◌, ◌≤◌, Some, slice_get}
use Rattle.group_commit.specs.declared.mark.Mark.TheVariants as marks
use Rattle.vault_model.specs.Said.{Command}
use Rattle.group_commit.specs.Entries.{Entry, Kept}
use Rattle.group_commit.specs.History.{entry_of}
use Rattle.group_commit.specs.World.{Act, Stage, Tell}
use Rattle.group_commit.specs.View.{View, length_of, book_of, view_acted}
use Rattle.group_commit.specs.Ticket.{Told, ticket_of, told_for, entry_in}
use Rattle.group_commit.specs.Seen.{snapshot_length}
use Rattle.group_commit.specs.Calls.{IsReceiptOf}

-- this entry is kept, at this position of the life
pub record HasEntry (v : View) (position : ℕ) (entry : Entry) : Type 0 where
  pub kept : Kept
  pub not_retired : v.retired ≤ position
  pub stands : slice_get v.kept (position - v.retired) ≡ Some kept
  pub is : kept.entry ≡ entry

-- a staged command's entry stands at the position of its ticket
abbrev pub StagedAtItsPosition : Type 0
StagedAtItsPosition = (v : View) (session : ℕ) (command : Command)
    → HasEntry (view_acted snapshot_length v (Stage session command)) (length_of v) (entry_of (book_of v) session command)

-- whatever act is made, it stays there until it is retired
abbrev pub PositionsStay : Type 0
PositionsStay = (v : View) (act : Act) (position : ℕ) (entry : Entry) → HasEntry v position entry
    → (view_acted snapshot_length v act).retired ≤ position → HasEntry (view_acted snapshot_length v act) position entry

-- so the receipt for its ticket is this entry's, with its reply
abbrev pub ReceiptsAreOfTheirEntries : Type 0
ReceiptsAreOfTheirEntries = (v : View) (life position : ℕ) (entry : Entry) (told : Told) → HasEntry v position entry
    → IsReceiptOf (ticket_of life position entry) v told → told ≡ told_for (ticket_of life position entry) entry.reply

-- the entry of this receipt is kept, at its position of the life, and was acknowledged
pub record HasTold (v : View) (told : Told) : Type 0 where
  pub kept : Kept
  pub not_retired : v.retired ≤ told.position
  pub stands : slice_get v.kept (told.position - v.retired) ≡ Some kept
  pub is : kept.entry ≡ entry_in told
  pub mark : kept.mark ≡ marks.Told

-- and once it was given, that entry is acknowledged
abbrev pub ReceiptsAreTold : Type 0
ReceiptsAreTold =
    (v : View) (life position : ℕ) (entry : Entry) (told : Told) → HasEntry v position entry
    → IsReceiptOf (ticket_of life position entry) v told
    → HasTold (view_acted snapshot_length v (Tell position)) told
