-- What redeeming a ticket counts, and whose receipt it gives. This project's own.
use Rattle.std.specs.Prelude.{◌≡◌, ◌+◌}
use Rattle.group_commit.specs.declared.answers.Redeemed.{Redeemed}
use Rattle.group_commit.specs.declared.answers.Redeemed.TheVariants as redeemed
use Rattle.group_commit.specs.Ticket.{TicketSeen, Told}
use Rattle.group_commit.specs.View.{View, length_of}
use Rattle.vault_desk.specs.declared.tally.Totals.{Totals}

-- a receipt is for the entry that a ticket names
pub record IsReceiptFor (claim : TicketSeen) (told : Told) : Type 0 where
  pub position : told.position ≡ claim.position
  pub session : told.session ≡ claim.session
  pub number : told.number ≡ claim.number
  pub command : told.command ≡ claim.command

-- the receipt is for the ticket, or the ticket came back
abbrev pub IsOfTicket : {A : Type 0} → TicketSeen → Redeemed A → Type 0
IsOfTicket claim (redeemed.Told receipt) = IsReceiptFor claim receipt
IsOfTicket claim (redeemed.NotYet back) = back ≡ claim
IsOfTicket claim (redeemed.Stranger back) = back ≡ claim
IsOfTicket claim (redeemed.Unknown back) = back ≡ claim
IsOfTicket claim (redeemed.NoMemory back) = back ≡ claim

-- a receipt is counted once, and nothing else
abbrev pub CountsRedeem : {A : Type 0} → Totals → Redeemed A → Totals → Type 0
CountsRedeem old (redeemed.Told receipt) new = new ≡ record old { told = old.told + 1 }
CountsRedeem old (redeemed.NotYet back) new = new ≡ old
CountsRedeem old (redeemed.Stranger back) new = new ≡ old
CountsRedeem old (redeemed.Unknown back) new = new ≡ old
CountsRedeem old (redeemed.NoMemory back) new = new ≡ old

-- the history and the number of its acknowledged entries have grown by what was counted
abbrev pub HasGrown : View → View → Totals → Type 0
HasGrown old new counted = (length_of new ≡ length_of old + counted.staged) × (new.told ≡ old.told + counted.told)
