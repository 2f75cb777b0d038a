-- What looking for the reply to a command comes to. This project's own.
use Rattle.std.specs.Prelude.{◌≡◌, ◌+◌, ◌<◌, ◌≤◌, false, List}
use Rattle.vault_model.specs.declared.replies.Outside.TheVariants.{Broken}
use Rattle.group_commit.specs.Seen.{VaultSeen, snapshot_length}
use Rattle.group_commit.specs.View.{View, ViewAllows, view_acted}
use Rattle.group_commit.specs.World.{Tell}
use Rattle.group_commit.specs.Ticket.{TicketSeen}
use Rattle.group_commit.specs.Calls.{IsReceiptOf}
use Rattle.vault_desk.specs.Tallies.{IsReceiptFor}
use Rattle.vault_desk.specs.Sights.{WasStaged, WasTold}
use Rattle.vault_desk.specs.Lost.{IsLost}
use Rattle.vault_desk.specs.declared.looked.Looked.{Looked}
use Rattle.vault_desk.specs.declared.looked.Looked.TheVariants as looked
use Rattle.vault_desk.specs.declared.tally.Totals.{Totals}

-- the receipt is for the ticket, or the ticket came back; if the reply is lost, the answer is that the vault is broken
abbrev pub IsFor : {A : Type 0} → TicketSeen → Looked A → Type 0
IsFor claim (looked.Told receipt) = IsReceiptFor claim receipt
IsFor claim (looked.NotYet back) = back ≡ claim
IsFor claim (looked.Lost back cause) = (back ≡ claim) × (cause ≡ Broken)
IsFor claim (looked.NoMemory back) = back ≡ claim

-- When each comes, for a vault: the reply is that of the entry at the ticket's position, which is durable and was open. While the entry
-- isn't durable and the vault isn't broken, the reply is still waited for.
abbrev pub IsLooked : {D A : Type 0} → VaultSeen D → TicketSeen → Looked A → Type 0
IsLooked seen claim (looked.Told receipt) =
    (claim.life ≡ seen.life) × ViewAllows snapshot_length seen.view (Tell claim.position) × IsReceiptOf claim seen.view receipt
IsLooked seen claim (looked.NotYet back) = (seen.view.settled ≤ claim.position) × (seen.view.broken ≡ false)
IsLooked seen claim (looked.Lost back cause) = IsLost seen claim
IsLooked seen claim (looked.NoMemory back) = claim.position < seen.view.settled

-- what it changed: a reply that is handed out is told, and else nothing is
abbrev pub ChangesLooked : {D A : Type 0} → VaultSeen D → VaultSeen D → TicketSeen → Looked A → Type 0
ChangesLooked old new claim (looked.Told receipt) = new ≡ record old { view = view_acted snapshot_length old.view (Tell claim.position) }
ChangesLooked old new claim (looked.NotYet back) = new ≡ old
ChangesLooked old new claim (looked.Lost back cause) = new ≡ old
ChangesLooked old new claim (looked.NoMemory back) = new ≡ old

-- a receipt is counted once, and nothing else
abbrev pub CountsLooked : {A : Type 0} → Totals → Looked A → Totals → Type 0
CountsLooked old (looked.Told receipt) new = new ≡ record old { told = old.told + 1 }
CountsLooked old (looked.NotYet back) new = new ≡ old
CountsLooked old (looked.Lost back cause) new = new ≡ old
CountsLooked old (looked.NoMemory back) new = new ≡ old

-- if the entry of the ticket was seen, its receipt is seen as acknowledged
abbrev pub ShowsLooked : {A : Type 0} → List View → TicketSeen → Looked A → List View → Type 0
ShowsLooked old claim (looked.Told receipt) new = WasStaged old claim → WasTold new receipt
ShowsLooked old claim (looked.NotYet back) new = Unit {0}
ShowsLooked old claim (looked.Lost back cause) new = Unit {0}
ShowsLooked old claim (looked.NoMemory back) new = Unit {0}
