use Rattle.std.proofs.Common.{subst}
use Rattle.vault_journal.specs.Spelling.{in_four}
use Rattle.vault_journal.specs.Written.{IsWritten}
use Rattle.vault_journal.proofs.Behind.{then}
use Rattle.vault_journal.proofs.records.put_child.Goals as goal

pub returns : goal.returns
returns c =
    let parent = subst (λ n. IsWritten c.put_u8-at.result (in_four n) c.put_u32-at.result c.put_u8-at.new.out c.put_u32-at.new.out) c.number.ensures c.put_u32-at.ensures in
    then _ _ _ _ _ _ _ _ (then _ _ _ _ _ _ _ _ c.put_u8-at.ensures parent) c.put_name.ensures
