use Rattle.std.proofs.Common.{sym, append-nil}
use Rattle.std.specs.List.{flat_map}
use Rattle.vault_journal.specs.Spelling.{item_bytes}
use Rattle.vault_format.proofs.Adding.{adds_more, adds_all, adds_nothing}
use Rattle.vault_format.proofs.fields.put_each_item.Goals as goal

pub loop-item-init : goal.loop-item-init
loop-item-init g c = sym (append-nil c.args.out.now.items)

pub returns-in_err-put_item : goal.returns-in_err-put_item
returns-in_err-put_item g c = adds_nothing c.args.out.now.items c.put_item.new.out.items (flat_map item_bytes c.args.items.now) c.from_residual.result c.from_residual.ensures.0

pub loop-item-preserved : goal.loop-item-preserved
loop-item-preserved g c =
    adds_more item_bytes c.args.items.now c.loop-item.item-index c.item-item.result _ _ _ c.loop-item-test.true (sym c.item-item.is) c.loop-item.invariant c.in_ok-put_item.ensures

pub returns : goal.returns
returns g c = adds_all item_bytes c.args.items.now c.loop-item.item-index _ _ c.loop-item-test.false c.loop-item.invariant
