use Rattle.std.proofs.Common.{◌∙◌, refl, arith}
use Rattle.std.specs.Prelude.{[], ◌∷◌}
use Rattle.vault_state.specs.Shelf.{draft_at}
use Rattle.vault_format.proofs.VersionsRead.{no_content, no_shelving, version_read}
use Rattle.vault_format.proofs.Refusals.{none_refused}
use Rattle.vault_format.proofs.places.read_version.Goals as goal

pub returns-in_default-clause-refused : goal.returns-in_default-clause-refused
returns-in_default-clause-refused g c = λ same. no_content c.args.part c.args.shelf.now c.args.bytes.now c.in_default.ensures

pub returns-in-Ok-clause-read : goal.returns-in-Ok-clause-read
returns-in-Ok-clause-read g c =
    version_read c.args.part c.args.shelf.now c.args.bytes.now (λ i. omega (arith, c.type_inv.bytes i)) c.append.new.self c.in-Some.content.now c.in-Some.rest.now c.in-Some.ensures
    (draft_at c.args.part c.in-Some.content.now ∷ []) refl c.in-Ok.ensures.appended

pub returns-in-Err-Limit-clause-refused : goal.returns-in-Err-Limit-clause-refused
returns-in-Err-Limit-clause-refused g c =
    let refused = rw c.in-Err-Limit.field-0-is at c.in-Err-Limit.ensures.refused in
    λ same. no_shelving c.args.part c.args.shelf.now c.args.bytes.now (λ i. omega (arith, c.type_inv.bytes i)) c.in-Some.content.now c.in-Some.rest.now c.in-Some.ensures
    (draft_at c.args.part c.in-Some.content.now ∷ []) refl refused

pub returns-in-Ok-clause-refused : goal.returns-in-Ok-clause-refused
returns-in-Ok-clause-refused g c = none_refused _ _
