use Rattle.vault_inspector.proofs.Written.{item_part}
use Rattle.vault_inspector.proofs.claims.print_item.Goals as goal

pub returns-in_err-put-in-Look : goal.returns-in_err-put-in-Look
returns-in_err-put-in-Look g c = item_part _ _ c.args.tree.now c.args.item _ _ c.in-Look.is c.from_residual.ensures.0 c.in_err-put-in-Look.ensures

pub returns-in_err-put-in-Change : goal.returns-in_err-put-in-Change
returns-in_err-put-in-Change g c =
    item_part _ _ c.args.tree.now c.args.item _ _ c.in-Change.is c.from_residual-in_err-put-in-Change.ensures.0 c.in_err-put-in-Change.ensures
