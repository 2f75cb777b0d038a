use Rattle.std.proofs.Common.{arith}
use Rattle.vault_format.specs.declared.error.SnapshotError.TheVariants.{NotWellFormed}
use Rattle.vault_format.specs.Places.{told_of}
use Rattle.vault_format.proofs.Refusals.{none_refused, same_error}
use Rattle.vault_format.proofs.PlaceRead.{no_name, no_place_above, no_kind, no_addition, place_added}
use Rattle.vault_format.proofs.places.read_name.Goals as goal

pub returns-in_default-name_at-clause-refused : goal.returns-in_default-name_at-clause-refused
returns-in_default-name_at-clause-refused g c = λ same.
    no_name c.args.version c.args.tree.now c.args.bytes.now (λ i. omega (arith, c.type_inv.bytes i)) c.in-Some.parent c.in-Some.rest.now c.in-Some.ensures c.in_default-name_at.ensures

pub returns-then-len-parent-clause-refused : goal.returns-then-len-parent-clause-refused
returns-then-len-parent-clause-refused g c = λ same.
    no_place_above c.args.version c.args.tree.now c.args.bytes.now (λ i. omega (arith, c.type_inv.bytes i)) c.in-Some.parent c.in-Some.rest.now c.in-Some.ensures (omega (arith, c.if-len-parent.true, c.len.ensures))

pub returns-in_default-kind_before-clause-refused : goal.returns-in_default-kind_before-clause-refused
returns-in_default-kind_before-clause-refused g c = λ same.
    no_kind c.args.version c.args.tree.now c.args.bytes.now (λ i. omega (arith, c.type_inv.bytes i)) c.in-Some.parent c.in-Some.rest.now c.in-Some.ensures c.in-Some-name_at.named.0 c.in-Some-name_at.named.1.now c.in-Some-name_at.ensures
    c.in_default-kind_before.ensures

pub returns-in_err-add-clause-refused : goal.returns-in_err-add-clause-refused
returns-in_err-add-clause-refused g c = λ same.
    no_addition c.args.version c.args.tree.now c.args.bytes.now (λ i. omega (arith, c.type_inv.bytes i)) c.in-Some.parent c.in-Some.rest.now c.in-Some.ensures c.in-Some-name_at.named.0 c.in-Some-name_at.named.1.now c.in-Some-name_at.ensures
    c.in-Some-kind_before.kind.0 c.in-Some-kind_before.kind.1.now c.in-Some-kind_before.ensures
    c.in_err-add.field-0.0 c.in_err-add.ensures.refused (same_error c.from_residual.result (told_of c.in_err-add.field-0.0) NotWellFormed c.from_residual.ensures.1 same)

pub returns-clause-read : goal.returns-clause-read
returns-clause-read g c =
    place_added c.args.version c.args.tree.now c.args.bytes.now (λ i. omega (arith, c.type_inv.bytes i)) c.in-Some.parent c.in-Some.rest.now c.in-Some.ensures c.in-Some-name_at.named.0 c.in-Some-name_at.named.1.now c.in-Some-name_at.ensures
    c.in-Some-kind_before.kind.0 c.in-Some-kind_before.kind.1.now c.in-Some-kind_before.ensures
    c.add.new.self c.in_ok-add.ensures.ok c.in_ok-add.ensures.tree

pub returns-clause-refused : goal.returns-clause-refused
returns-clause-refused g c = none_refused _ _
