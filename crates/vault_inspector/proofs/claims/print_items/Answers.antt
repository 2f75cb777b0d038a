use Rattle.std.proofs.Common.{sym}
use Rattle.vault_inspector.specs.Texts.{item_text}
use Rattle.vault_inspector.proofs.Written.{part_of_each, more_of_each, writes_part}
use Rattle.vault_inspector.proofs.claims.print_items.Goals as goal

pub returns-in_err-print_item : goal.returns-in_err-print_item
returns-in_err-print_item g c =
    writes_part _ _ _ _ c.from_residual.ensures.0 (part_of_each (item_text c.args.tree.now) _ _ _ _ _ _ c.loop-item-test.true (sym c.item-item.is) c.loop-item.invariant c.in_err-print_item.ensures)

pub loop-item-preserved : goal.loop-item-preserved
loop-item-preserved g c = more_of_each (item_text c.args.tree.now) _ _ _ _ _ _ c.loop-item-test.true (sym c.item-item.is) c.loop-item.invariant c.in_ok-print_item.ensures
