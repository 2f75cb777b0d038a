use Rattle.std.proofs.Common.{◌∙◌, arith}
use Rattle.vault_format.proofs.DraftsRead.{no_draft_content, draft_read}
use Rattle.vault_format.proofs.Refusals.{none_refused}
use Rattle.vault_format.proofs.claims.read_draft.Goals as goal

pub returns-in_default-content_at-clause-refused : goal.returns-in_default-content_at-clause-refused
returns-in_default-content_at-clause-refused g c = λ same. no_draft_content c.args.bytes.now c.in-Some.place c.in-Some.rest.now c.in-Some.ensures c.in_default-content_at.ensures

pub returns-clause-read : goal.returns-clause-read
returns-clause-read g c =
    draft_read c.args.bytes.now (λ i. omega (arith, c.type_inv.bytes i)) c.in-Some.place c.in-Some.rest.now c.in-Some-content_at.content.now c.in-Some-content_at.after.now c.in-Some.ensures c.in-Some-content_at.ensures
    c.args.drafts.now.items c.push.new.self.items c.from_vec-content.result c.in_ok-push.ensures.items (c.from_vec-content.ensures ∙ c.in_ok-from_slice.ensures.items)

pub returns-clause-refused : goal.returns-clause-refused
returns-clause-refused g c = none_refused _ _
