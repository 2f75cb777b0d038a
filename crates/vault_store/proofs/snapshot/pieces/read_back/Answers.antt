use Rattle.std.proofs.Common.{Err, length, ap, ◌∙◌, arith}
use Rattle.vault_format.specs.Snapshot.{current_version}
use Rattle.vault_store.proofs.SnapshotRead.{is_end, not_end}
use Rattle.vault_store.proofs.InPieces.{back_read}
use Rattle.vault_store.proofs.NotInPieces.{no_claims_back, more_back, no_parts_back}
use Rattle.vault_store.proofs.snapshot.pieces.read_back.Goals as goal

pub returns-in-Err-NotWellFormed-clause-none : goal.returns-in-Err-NotWellFormed-clause-none
returns-in-Err-NotWellFormed-clause-none g c = λ same.
    no_claims_back (g.D.Device.disk c.args.device.now) c.args.last_long (omega (arith, c.ranges.last_long.fits)) c.args.front.tree c.args.front.shelf c.requires.are c.deref.result.now
    c.args.front.at c.args.end c.requires.within (λ honest. c.deref.ensures.value ∙ c.in-Ok.ensures.bytes honest) (c.in-Err-NotWellFormed.ensures.refused (ap Err c.in-Err-NotWellFormed.field-0-is))

pub returns-then-not-is_empty-clause-none : goal.returns-then-not-is_empty-clause-none
returns-then-not-is_empty-clause-none g c = λ same.
    more_back (g.D.Device.disk c.args.device.now) c.args.last_long (omega (arith, c.ranges.last_long.fits)) c.args.front.tree c.args.front.shelf c.requires.are c.deref.result.now
    c.args.front.at c.args.end c.requires.within (λ honest. c.deref.ensures.value ∙ c.in-Ok.ensures.bytes honest) c.read_claims.new.claims.items c.read_claims.new.drafts.items c.in-Ok-read_claims.rest.now c.in-Ok-read_claims.ensures.read
    (not_end c.in-Ok-read_claims.rest.now c.is_empty.result c.is_empty.ensures c.if-not-is_empty.true)

pub returns-in-Ok-from_parts-clause-book : goal.returns-in-Ok-from_parts-clause-book
returns-in-Ok-from_parts-clause-book g c =
    back_read current_version c.args.last_long (omega (arith, c.ranges.last_long.fits)) c.args.front.tree c.args.front.shelf c.requires.are c.deref.result.now (g.D.Device.disk c.args.device.now) c.args.front.at c.args.end
    (ap length c.deref.ensures.value ∙ c.in-Ok.ensures.size) c.requires.within (λ honest. c.deref.ensures.value ∙ c.in-Ok.ensures.bytes honest)
    c.read_claims.new.claims.items c.read_claims.new.drafts.items c.in-Ok-read_claims.rest.now c.in-Ok-read_claims.ensures.read
    (is_end c.in-Ok-read_claims.rest.now c.is_empty.result c.is_empty.ensures c.if-not-is_empty.false) c.in-Ok-from_parts.book c.in-Ok-from_parts.ensures.made

pub returns-in-Err-NotWellFormed-from_parts-clause-none : goal.returns-in-Err-NotWellFormed-from_parts-clause-none
returns-in-Err-NotWellFormed-from_parts-clause-none g c = λ same.
    no_parts_back (g.D.Device.disk c.args.device.now) c.args.last_long (omega (arith, c.ranges.last_long.fits)) c.args.front.tree c.args.front.shelf c.requires.are c.deref.result.now
    c.args.front.at c.args.end c.requires.within (λ honest. c.deref.ensures.value ∙ c.in-Ok.ensures.bytes honest) c.read_claims.new.claims.items c.read_claims.new.drafts.items c.in-Ok-read_claims.rest.now c.in-Ok-read_claims.ensures.read
    (rw c.in-Err-NotWellFormed-from_parts.field-0-is at c.in-Err-NotWellFormed-from_parts.ensures.refused)
