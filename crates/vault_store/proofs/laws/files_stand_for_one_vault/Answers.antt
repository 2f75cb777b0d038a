use Rattle.vault_store.proofs.Exact.{one_reading, one_vault, nothing_is_wrong}
use Rattle.vault_store.proofs.OneFault.{one_fault}
use Rattle.vault_store.proofs.Placed.{read_exchanged}
use Rattle.vault_store.proofs.laws.files_stand_for_one_vault.Goals as goal

pub returns : goal.returns
returns c = record { reading = one_reading; either = read_exchanged; vault = one_vault; right = nothing_is_wrong; fault = one_fault }
