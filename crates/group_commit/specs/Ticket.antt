-- What contracts see of tickets and receipts. A program reads the position of a ticket and the reply of a receipt; the rest is
-- there for contracts alone. This project's own.
use Rattle.std.specs.Prelude.{ℕ}
use Rattle.vault_model.specs.Said.{Command, Reply}
use Rattle.group_commit.specs.Entries.{Entry}

-- the life and the position of an entry, and its session, number and command
pub record TicketSeen : Type 0 where
  pub life : ℕ
  pub position : ℕ
  pub session : ℕ
  pub number : ℕ
  pub command : Command

-- an entry as it was acknowledged
pub record Told : Type 0 where
  pub position : ℕ
  pub session : ℕ
  pub number : ℕ
  pub command : Command
  pub reply : Reply

-- the ticket of an entry
abbrev pub ticket_of : ℕ → ℕ → Entry → TicketSeen
ticket_of life position entry =
    record { life = life; position = position; session = entry.session; number = entry.number; command = entry.command }

-- the receipt for a ticket, with this reply
abbrev pub told_for : TicketSeen → Reply → Told
told_for claim reply =
    record { position = claim.position; session = claim.session; number = claim.number; command = claim.command; reply = reply }

-- the entry of a receipt
abbrev pub entry_in : Told → Entry
entry_in told = record { session = told.session; number = told.number; command = told.command; reply = told.reply }
