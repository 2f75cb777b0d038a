use Rattle.vault_format.specs.Snapshot.{drafts_bytes}
use Rattle.vault_format.proofs.Adding.{adds_after, adds_nothing}
use Rattle.vault_format.proofs.fields.put_drafts.Goals as goal

pub returns-in_err-put : goal.returns-in_err-put
returns-in_err-put g c = adds_nothing c.args.out.now.items c.put.new.out.items (drafts_bytes c.args.drafts.now) c.from_residual.result c.from_residual.ensures.0

pub put_each_draft-requires : goal.put_each_draft-requires
put_each_draft-requires g c = c.requires.short

pub returns : goal.returns
returns g c = adds_after _ _ _ _ _ _ c.in_ok-put.ensures c.put_each_draft.ensures
