use Rattle.std.proofs.Common.{[], ◌∷◌, subst}
use Rattle.vault_journal.specs.Spelling.{in_four}
use Rattle.vault_journal.specs.Written.{IsWritten}
use Rattle.vault_journal.proofs.Behind.{then}
use Rattle.vault_journal.proofs.writing.put_item.Goals as goal

pub returns : goal.returns
returns c =
    let first = subst (λ n. IsWritten c.args.at (n ∷ []) c.put_u8-at.result c.args.out.now c.put_u8-at.new.out) c.intent_byte.ensures c.put_u8-at.ensures in
    let second = subst (λ n. IsWritten c.put_u8-at.result (in_four n) c.put_u32.result c.put_u8-at.new.out c.put_u32.new.out) c.number.ensures c.put_u32.ensures in
    then _ _ _ _ _ _ _ _ first second
