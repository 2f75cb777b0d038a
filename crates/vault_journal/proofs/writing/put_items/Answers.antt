use Rattle.std.proofs.Common.{take, subst, arith}
use Rattle.std.proofs.lemmas.List.{length-take-le}
use Rattle.vault_journal.specs.Spelling.{item_bytes}
use Rattle.vault_journal.specs.Written.{IsWritten}
use Rattle.vault_journal.proofs.Sizes.{flat_map-item_bytes}
use Rattle.vault_journal.proofs.Behind.{items_more}
use Rattle.vault_journal.proofs.writing.put_items.Goals as goal

pub put_item-next-requires : goal.put_item-next-requires
put_item-next-requires c =
    let i = c.loop-item.item-index in
    let items = c.args.items.now in
    omega (arith, c.loop-item.invariant.behind, c.loop-item.invariant.size, c.requires.room, flat_map-item_bytes (take i items), length-take-le i items (omega arith))

pub loop-item-preserved : goal.loop-item-preserved
loop-item-preserved c =
    let one = subst (λ i. IsWritten c.loop-item.next (item_bytes i) c.put_item-next.result c.loop-item.out c.put_item-next.new.out) c.item-item.is c.put_item-next.ensures in
    items_more _ _ _ _ _ _ _ _ _ _ c.loop-item-test.true c.loop-item.invariant one
