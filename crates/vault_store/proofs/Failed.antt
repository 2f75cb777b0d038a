-- A step whose device call failed, as the function that records it reports it.
use Rattle.std.proofs.Common.{◌≡◌, Bool, true, sym, subst, Result, Err}
use Rattle.vault_device.specs.Disk.{Disk}
use Rattle.vault_device.specs.declared.device.Fault.{Fault}
use Rattle.vault_store.specs.declared.phase.Advanced.{Advanced}
use Rattle.vault_store.specs.Seen.{StoreSeen}
use Rattle.vault_store.specs.Step.{IsAdvance}

-- what holds of a broken store as it is inside, and of the fault, holds of what stands for them
pub failed_by : {D : Type 0} (disk : D → Disk) {old : StoreSeen D} (inside new : StoreSeen D) (fault : Fault) {broken : Bool} {answer : Result Advanced Fault} → inside ≡ old
    → broken ≡ true → answer ≡ Err fault → IsAdvance disk inside (record new { broken = true }) (Err fault) → IsAdvance disk old (record new { broken = broken }) answer
failed_by disk {old} inside new fault {broken} {answer} is_seen is_broken is_told it =
    subst (λ (o : StoreSeen _). IsAdvance disk o (record new { broken = broken }) answer) is_seen
    (subst (λ (a : Result Advanced Fault). IsAdvance disk inside (record new { broken = broken }) a) (sym is_told)
    (subst (λ (b : Bool). IsAdvance disk inside (record new { broken = b }) (Err fault)) (sym is_broken) it))
