use Rattle.std.proofs.Common.{◌∙◌, sym, arith}
use Rattle.std.proofs.lemmas.Option.{IfSome_then}
use Rattle.vault_format.proofs.Ahead.{no_name_field, no_kind_field, no_count_field, fewer_versions, no_part_fields, part_fields}
use Rattle.vault_format.proofs.places.behind_place.Goals as goal

pub returns-in_default-clause-none : goal.returns-in_default-clause-none
returns-in_default-clause-none c = λ same. no_name_field c.args.bytes.now c.in_ok-rest.field-0-0 c.in_ok-rest.rest.now c.in_ok-rest.ensures c.in_default.ensures

pub returns-in_err-kind-clause-none : goal.returns-in_err-kind-clause-none
returns-in_err-kind-clause-none c = λ same.
    no_kind_field c.args.bytes.now c.in_ok-rest.field-0-0 c.in_ok-rest.rest.now c.in_ok-rest.ensures c.in-Some.named.0 c.in-Some.named.1.now c.in-Some.ensures c.in_err-kind.ensures

pub returns-then-kind-kind_byte-clause-there : goal.returns-then-kind-kind_byte-clause-there
returns-then-kind-kind_byte-clause-there c =
    no_part_fields c.args.bytes.now c.in_ok-rest.field-0-0 c.in_ok-rest.rest.now c.in_ok-rest.ensures c.in-Some.named.0 c.in-Some.named.1.now c.in-Some.ensures c.in_ok-kind.kind c.in_ok-kind.rest.now c.in_ok-kind.ensures
    (λ i. omega (arith, c.type_inv.bytes i)) (λ same. c.if-kind-kind_byte.true (same ∙ sym c.kind_byte.ensures))

pub returns-in_err-count-clause-none : goal.returns-in_err-count-clause-none
returns-in_err-count-clause-none c = λ same.
    no_count_field c.args.bytes.now c.in_ok-rest.field-0-0 c.in_ok-rest.rest.now c.in_ok-rest.ensures c.in-Some.named.0 c.in-Some.named.1.now c.in-Some.ensures c.in_ok-kind.kind c.in_ok-kind.rest.now c.in_ok-kind.ensures
    (c.if-kind-kind_byte.false ∙ c.kind_byte.ensures) c.in_err-count.ensures

pub returns-clause-there : goal.returns-clause-there
returns-clause-there c =
    IfSome_then c.behind_versions.result c.behind_versions.ensures.there
    (λ rest at.
    part_fields c.args.bytes.now c.in_ok-rest.field-0-0 c.in_ok-rest.rest.now c.in_ok-rest.ensures c.in-Some.named.0 c.in-Some.named.1.now c.in-Some.ensures c.in_ok-kind.kind c.in_ok-kind.rest.now c.in_ok-kind.ensures
    (λ i. omega (arith, c.type_inv.bytes i)) (c.if-kind-kind_byte.false ∙ c.kind_byte.ensures) c.in_ok-count.count c.in_ok-count.rest.now rest.now c.in_ok-count.ensures at)

pub returns-clause-none : goal.returns-clause-none
returns-clause-none c = λ same.
    fewer_versions c.args.bytes.now c.in_ok-rest.field-0-0 c.in_ok-rest.rest.now c.in_ok-rest.ensures c.in-Some.named.0 c.in-Some.named.1.now c.in-Some.ensures c.in_ok-kind.kind c.in_ok-kind.rest.now c.in_ok-kind.ensures
    (c.if-kind-kind_byte.false ∙ c.kind_byte.ensures) c.in_ok-count.count c.in_ok-count.rest.now c.in_ok-count.ensures (c.behind_versions.ensures.none same)
