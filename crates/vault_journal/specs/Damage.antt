-- What a reported damage says of the bytes.
use Rattle.std.specs.Prelude.{ℕ, List}
use Rattle.vault_journal.specs.declared.records.Damage.{Damage}
use Rattle.vault_journal.specs.declared.records.Damage.TheVariants.{At, NoMemory}
use Rattle.vault_journal.specs.Rows.{AreRecords, IsFirstFault}

-- an offset is that of the first fault; out of memory is reported only where the bytes are records
abbrev pub IsDamage : List ℕ → Damage → Type 0
IsDamage bytes (At offset) = IsFirstFault bytes offset
IsDamage bytes NoMemory = AreRecords bytes
