-- When the reply to a command is lost. This project's own.
use Rattle.std.specs.Prelude.{◌≡◌, ◌⊎◌, true}
use Rattle.group_commit.specs.Seen.{VaultSeen}
use Rattle.group_commit.specs.Ticket.{TicketSeen}
use Rattle.group_commit.specs.Calls.{NamesOpen}

-- nobody will know the reply: the vault is broken, or the ticket names no open entry of it
abbrev pub IsLost : {D : Type 0} → VaultSeen D → TicketSeen → Type 0
IsLost seen claim = (seen.view.broken ≡ true) ⊎ (NamesOpen seen claim → ⊥)
