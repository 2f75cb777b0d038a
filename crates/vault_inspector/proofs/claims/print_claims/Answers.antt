use Rattle.std.proofs.lemmas.Option.{get_or_from_slice_get, slice_get_within}
use Rattle.vault_inspector.specs.Texts.{claim_line}
use Rattle.vault_inspector.proofs.Written.{part_of_each, more_of_each, writes_part}
use Rattle.vault_inspector.proofs.claims.print_claims.Goals as goal

pub returns-in_err-print_claim : goal.returns-in_err-print_claim
returns-in_err-print_claim g c =
    let at = c.claim_at.ensures in
    let within = slice_get_within c.args.book.now.line c.loop-position.position c.claim_at.result.now at in
    let part = part_of_each (claim_line c.args.book.now) _ _ _ _ _ _ within (get_or_from_slice_get c.args.book.now.line c.loop-position.position c.claim_at.result.now c.claim_at.result.now at) c.loop-position.invariant c.in_err-print_claim.ensures in
    writes_part _ _ _ _ c.from_residual.ensures.0 part

pub loop-position-preserved : goal.loop-position-preserved
loop-position-preserved g c =
    let at = c.claim_at.ensures in
    let within = slice_get_within c.args.book.now.line c.loop-position.position c.claim_at.result.now at in
    more_of_each (claim_line c.args.book.now) _ _ _ _ _ _ within (get_or_from_slice_get c.args.book.now.line c.loop-position.position c.claim_at.result.now c.claim_at.result.now at) c.loop-position.invariant c.in_ok-print_claim.ensures
