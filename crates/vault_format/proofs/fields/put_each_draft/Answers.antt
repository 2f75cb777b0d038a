use Rattle.std.proofs.Common.{◌≤◌, length, sym, subst, append-nil}
use Rattle.std.specs.List.{flat_map}
use Rattle.vault_state.specs.Limits.{longest_content}
use Rattle.vault_state.specs.Shelf.{Draft}
use Rattle.vault_format.specs.Snapshot.{draft_bytes}
use Rattle.vault_format.proofs.Adding.{adds_more, adds_all, adds_nothing}
use Rattle.vault_format.proofs.fields.put_each_draft.Goals as goal

pub loop-draft-init : goal.loop-draft-init
loop-draft-init g c = sym (append-nil c.args.out.now.items)

pub put_draft-requires : goal.put_draft-requires
put_draft-requires g c =
    subst (λ (d : Draft). length d.content ≤ longest_content) (sym c.draft-item.is) (c.requires c.loop-draft.draft-index c.draft-item.result c.loop-draft-test.true)

pub returns-in_err-put_draft : goal.returns-in_err-put_draft
returns-in_err-put_draft g c = adds_nothing c.args.out.now.items c.put_draft.new.out.items (flat_map draft_bytes c.args.drafts.now) c.from_residual.result c.from_residual.ensures.0

pub loop-draft-preserved : goal.loop-draft-preserved
loop-draft-preserved g c =
    adds_more draft_bytes c.args.drafts.now c.loop-draft.draft-index c.draft-item.result _ _ _ c.loop-draft-test.true (sym c.draft-item.is) c.loop-draft.invariant c.in_ok-put_draft.ensures

pub returns : goal.returns
returns g c = adds_all draft_bytes c.args.drafts.now c.loop-draft.draft-index _ _ c.loop-draft-test.false c.loop-draft.invariant
