use Rattle.std.proofs.Common.{arith}
use Rattle.vault_journal.proofs.OneSpelling.{fields_are_spelled}
use Rattle.vault_format.proofs.Refusals.{passed}
use Rattle.vault_store.proofs.SnapshotRead.{no_places, no_claims, is_end, not_end, more_behind, no_parts, has_spelling, is_snapshot}
use Rattle.vault_store.proofs.snapshot.read_snapshot.Goals as goal

pub returns-in_err-places-clause-refused : goal.returns-in_err-places-clause-refused
returns-in_err-places-clause-refused g c = λ same.
    no_places c.args.version c.args.bytes.now c.in-Some.last_long c.in-Some.rest.now c.in-Some.ensures (passed c.from_residual.result c.in_err-places.field-0.0 c.from_residual.ensures.1 c.in_err-places.ensures.refused same)

pub returns-in_err-end-clause-refused : goal.returns-in_err-end-clause-refused
returns-in_err-end-clause-refused g c = λ same.
    no_claims c.args.version c.args.bytes.now c.in-Some.last_long c.in-Some.rest.now c.in-Some.ensures c.in_ok-places.places.tree c.in_ok-places.places.shelf c.in_ok-places.places.rest.now c.in_ok-places.ensures.read
    (passed c.from_residual-in_err-end.result c.in_err-end.field-0.0 c.from_residual-in_err-end.ensures.1 c.in_err-end.ensures.refused same)

pub returns-then-not-is_empty-clause-refused : goal.returns-then-not-is_empty-clause-refused
returns-then-not-is_empty-clause-refused g c = λ same.
    more_behind c.args.version c.args.bytes.now c.in-Some.last_long c.in-Some.rest.now c.in-Some.ensures c.in_ok-places.places.tree c.in_ok-places.places.shelf c.in_ok-places.places.rest.now c.in_ok-places.ensures.read
    c.read_claims.new.claims.items c.read_claims.new.drafts.items c.in_ok-end.end.now c.in_ok-end.ensures.read (not_end c.in_ok-end.end.now c.is_empty.result c.is_empty.ensures c.if-not-is_empty.true)

pub returns-in-Ok-clause-ok : goal.returns-in-Ok-clause-ok
returns-in-Ok-clause-ok g c = (
  has_spelling c.args.version c.args.bytes.now c.in-Some.last_long c.in-Some.rest.now c.in-Some.ensures c.in_ok-places.places.tree c.in_ok-places.places.shelf c.in_ok-places.places.rest.now c.in_ok-places.ensures.read
      c.read_claims.new.claims.items c.read_claims.new.drafts.items c.in_ok-end.end.now c.in_ok-end.ensures.read c.in-Ok.book c.in-Ok.ensures.made,
  is_snapshot c.args.version c.args.bytes.now c.in-Some.last_long c.in-Some.rest.now c.in-Some.ensures c.in_ok-places.places.tree c.in_ok-places.places.shelf c.in_ok-places.places.rest.now c.in_ok-places.ensures.read
      c.read_claims.new.claims.items c.read_claims.new.drafts.items c.in_ok-end.end.now c.in_ok-end.ensures.read c.in-Ok.book c.in-Ok.ensures.made
      (fields_are_spelled.in_four.spelled c.args.bytes.now c.in-Some.last_long c.in-Some.rest.now (λ i. omega (arith, c.type_inv.bytes i)) c.in-Some.ensures).0
      (is_end c.in_ok-end.end.now c.is_empty.result c.is_empty.ensures c.if-not-is_empty.false),
)

pub returns-in-Err-NotWellFormed-clause-refused : goal.returns-in-Err-NotWellFormed-clause-refused
returns-in-Err-NotWellFormed-clause-refused g c = λ same.
    no_parts c.args.version c.args.bytes.now c.in-Some.last_long c.in-Some.rest.now c.in-Some.ensures c.in_ok-places.places.tree c.in_ok-places.places.shelf c.in_ok-places.places.rest.now c.in_ok-places.ensures.read
    c.read_claims.new.claims.items c.read_claims.new.drafts.items c.in_ok-end.end.now c.in_ok-end.ensures.read (rw c.in-Err-NotWellFormed.field-0-is at c.in-Err-NotWellFormed.ensures.refused)
