use Rattle.std.proofs.Common.{◌++◌, length}
use Rattle.std.specs.Prelude.{codes, decimal}
use Rattle.vault_lines.proofs.Children.{name_told, all_told}
use Rattle.vault_lines.proofs.text.text_of_children.Goals as goal

pub loop-name-preserved : goal.loop-name-preserved
loop-name-preserved g c =
    name_told (codes "OK list " ++ decimal (length c.args.names.now)) c.args.names.now c.loop-name.name-index c.loop-name.text.items
    c.loop-name.invariant
    c.name-item.result c.as_bytes.result.now c.extend_from_slice.new.self.items c.extend_from_slice-in-loop-name.new.self.items
    c.loop-name-test.true c.name-item.is c.as_bytes.ensures.bytes c.in_ok-extend_from_slice.ensures.items
    c.in_ok-extend_from_slice-2.ensures.items

pub returns : goal.returns
returns g c =
    all_told (codes "OK list " ++ decimal (length c.args.names.now)) c.args.names.now c.loop-name.name-index c.loop-name.text.items
    c.loop-name.invariant
    c.extend_from_slice-2.new.self.items c.loop-name-test.false c.in_ok-extend_from_slice-3.ensures.items
