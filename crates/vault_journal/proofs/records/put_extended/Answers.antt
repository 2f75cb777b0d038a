use Rattle.std.proofs.Common.{subst}
use Rattle.vault_journal.specs.Spelling.{items_bytes}
use Rattle.vault_journal.specs.Written.{IsWritten}
use Rattle.vault_journal.proofs.Behind.{then}
use Rattle.vault_journal.proofs.records.put_extended.Goals as goal

pub returns : goal.returns
returns c =
    let items = subst (λ is. IsWritten c.put_claim-at.result (items_bytes is) c.put_items.result c.put_claim-at.new.out c.put_items.new.out) c.as_slice.ensures.items c.put_items.ensures in
    then _ _ _ _ _ _ _ _ c.put_claim-at.ensures items
