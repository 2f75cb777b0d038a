use Rattle.std.proofs.Common.{arith}
use Rattle.vault_format.proofs.Refusals.{none_refused, passed}
use Rattle.vault_format.proofs.ClaimsRead.{no_owner, no_note, no_items, no_own_drafts, claim_read}
use Rattle.vault_format.proofs.claims.read_claim.Goals as goal

pub returns-in_default-name_at-clause-refused : goal.returns-in_default-name_at-clause-refused
returns-in_default-name_at-clause-refused g c = λ same. no_owner c.args.version c.args.bytes.now c.in-Some.number c.in-Some.rest.now c.in-Some.ensures c.in_default-name_at.ensures

pub returns-in_default-note_before-clause-refused : goal.returns-in_default-note_before-clause-refused
returns-in_default-note_before-clause-refused g c = λ same.
    no_note c.args.version c.args.bytes.now c.in-Some.number c.in-Some.rest.now c.in-Some.ensures c.in-Some-name_at.named.0 c.in-Some-name_at.named.1.now c.in-Some-name_at.ensures c.in_default-note_before.ensures

pub returns-in_default-items_at-clause-refused : goal.returns-in_default-items_at-clause-refused
returns-in_default-items_at-clause-refused g c = λ same.
    no_items c.args.version c.args.bytes.now c.in-Some.number c.in-Some.rest.now c.in-Some.ensures c.in-Some-name_at.named.0 c.in-Some-name_at.named.1.now c.in-Some-name_at.ensures
    c.in-Some-note_before.noted.0 c.in-Some-note_before.noted.1.now c.in-Some-note_before.ensures c.in_default-items_at.ensures

pub returns-in_err-after-clause-refused : goal.returns-in_err-after-clause-refused
returns-in_err-after-clause-refused g c = λ same.
    no_own_drafts c.args.version c.args.bytes.now c.in-Some.number c.in-Some.rest.now c.in-Some.ensures c.in-Some-name_at.named.0 c.in-Some-name_at.named.1.now c.in-Some-name_at.ensures
    c.in-Some-note_before.noted.0 c.in-Some-note_before.noted.1.now c.in-Some-note_before.ensures c.in-Some-items_at.held.0 c.in-Some-items_at.held.1.now c.in-Some-items_at.ensures
    (passed c.from_residual.result c.in_err-after.field-0.0 c.from_residual.ensures.1 c.in_err-after.ensures.refused same)

pub returns-clause-read : goal.returns-clause-read
returns-clause-read g c =
    claim_read c.args.version c.args.bytes.now c.in-Some.number c.in-Some.rest.now c.in-Some.ensures c.in-Some-name_at.named.0 c.in-Some-name_at.named.1.now c.in-Some-name_at.ensures
    c.in-Some-note_before.noted.0 c.in-Some-note_before.noted.1.now c.in-Some-note_before.ensures c.in-Some-items_at.held.0 c.in-Some-items_at.held.1.now c.in-Some-items_at.ensures
    (λ i. omega (arith, c.type_inv.bytes i)) c.read_drafts.new.drafts.items c.from_vec.result c.in_ok-after.after.now c.in_ok-after.ensures.read c.from_vec.ensures
    c.args.claims.now.items c.push.new.self.items c.args.drafts.now.items c.push-2.new.self.items c.in_ok-push.ensures.items c.in_ok-push-2.ensures.items

pub returns-clause-refused : goal.returns-clause-refused
returns-clause-refused g c = none_refused _ _
