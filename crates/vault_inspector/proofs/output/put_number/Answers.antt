use Rattle.std.proofs.Common.{◌∙◌}
use Rattle.std.specs.Prelude.{decimal}
use Rattle.vault_inspector.specs.Texts.{numbered}
use Rattle.vault_inspector.proofs.Written.{part_then, writes_after, writes_part}
use Rattle.vault_inspector.proofs.output.put_number.Goals as goal

pub returns-in_err-put : goal.returns-in_err-put
unfolding numbered
returns-in_err-put g c = writes_part _ _ _ _ c.from_residual.ensures.0 (part_then _ _ c.args.words.now (decimal c.args.number) c.in_err-put.ensures)

pub returns : goal.returns
unfolding numbered
returns g c = writes_after _ _ _ c.args.words.now (decimal c.args.number) _ c.in_ok-put.ensures (rw (c.as_bytes.ensures.value ∙ c.format.ensures.text) at c.put-2.ensures)
