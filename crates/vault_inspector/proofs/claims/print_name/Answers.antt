use Rattle.std.proofs.Common.{◌∷◌, []}
use Rattle.vault_inspector.proofs.Written.{part_then, writes_after, writes_part}
use Rattle.vault_inspector.proofs.claims.print_name.Goals as goal

pub returns-in_err-put : goal.returns-in_err-put
returns-in_err-put g c = writes_part _ _ _ _ c.from_residual.ensures.0 (part_then _ _ (47 ∷ []) c.args.name.now c.in_err-put.ensures)

pub returns : goal.returns
returns g c = writes_after _ _ _ (47 ∷ []) c.args.name.now _ c.in_ok-put.ensures (rw c.as_bytes.ensures.bytes at c.put-2.ensures)
