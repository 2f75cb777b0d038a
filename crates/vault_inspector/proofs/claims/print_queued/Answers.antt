use Rattle.std.specs.Prelude.{codes}
use Rattle.vault_inspector.specs.Texts.{claim_text}
use Rattle.vault_inspector.proofs.Written.{part_then, writes_after, writes_part}
use Rattle.vault_inspector.proofs.claims.print_queued.Goals as goal

pub returns-in_err-put : goal.returns-in_err-put
returns-in_err-put g c = writes_part _ _ _ _ c.from_residual.ensures.0 (part_then _ _ (codes " queued behind ") (claim_text c.args.other) c.in_err-put.ensures)

pub returns : goal.returns
returns g c = writes_after _ _ _ (codes " queued behind ") (claim_text c.args.other) _ c.in_ok-put.ensures c.print_id.ensures
