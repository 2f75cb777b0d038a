use Rattle.std.proofs.Common.{ℕ, []}
use Rattle.std.proofs.lemmas.Result.{IfOk-weaker, IfErr-weaker}
use Rattle.vault_format.specs.Snapshot.{current_version}
use Rattle.vault_store.proofs.Behind.{and_reads, quiet_then, why_behind}
use Rattle.vault_store.proofs.Bodies.{one_read}
use Rattle.vault_store.proofs.InPieces.{front_back, back_moved, each_found, snapshot_read}
use Rattle.vault_store.proofs.NotInPieces.{fewer_moved, back_not_moved, none_in_front, none_in_back}
use Rattle.vault_store.proofs.snapshot.pieces.read_in_pieces.Goals as goal

pub returns-clause-reads : goal.returns-clause-reads
returns-clause-reads g c =
    and_reads (g.D.Device.disk c.args.device.now) (g.D.Device.disk c.read_front.new.device) (g.D.Device.disk c.read_back.new.device)
    (and_reads (g.D.Device.disk c.args.device.now) (g.D.Device.disk c.read_at.new.self) (g.D.Device.disk c.read_front.new.device)
    (one_read (g.D.Device.disk c.args.device.now) (g.D.Device.disk c.read_at.new.self) c.read_at.result c.read_at.ensures.one_call c.read_at.ensures.kept) c.read_front.ensures.reads)
    c.read_back.ensures.reads

pub returns-clause-book : goal.returns-clause-book
returns-clause-book g c =
    let old = g.D.Device.disk c.args.device.now in
    let mid = g.D.Device.disk c.read_at.new.self in
    let reads = one_read old mid c.read_at.result c.read_at.ensures.one_call c.read_at.ensures.kept in
    let both = and_reads old mid (g.D.Device.disk c.read_front.new.device) reads c.read_front.ensures.reads in
    let front = c.in-Some-2.front in
    each_found c.read_back.result _ _
    (λ book back.
    snapshot_read old current_version c.read_at.new.buffer c.in-Some.last_long c.in-Some.count c.in-Some.ensures.numbers (λ honest. c.in_ok-read_at.ensures.bytes honest) front.tree front.shelf front.at c.args.end
    (front_back old mid current_version 32 front.tree front.shelf front.at reads (rw c.in-Some-2.is at c.in_ok-front.ensures.front))
    (rw c.in-Some-2.is at c.in_ok-front.ensures.count) (rw c.in-Some-2.is at c.in_ok-front.ensures.within) book
    (back_moved old (g.D.Device.disk c.read_front.new.device) current_version c.in-Some.last_long front.tree front.shelf front.at c.args.end book both back))
    c.read_back.ensures.book

pub returns-clause-refused : goal.returns-clause-refused
returns-clause-refused g c =
    let old = g.D.Device.disk c.args.device.now in
    let mid = g.D.Device.disk c.read_at.new.self in
    let reads = one_read old mid c.read_at.result c.read_at.ensures.one_call c.read_at.ensures.kept in
    let both = and_reads old mid (g.D.Device.disk c.read_front.new.device) reads c.read_front.ensures.reads in
    let quiet = quiet_then old mid (g.D.Device.disk c.read_front.new.device) (record { same_faults = c.in_ok-read_at.ensures.one_call.no_fault }) c.in_ok-front.ensures.quiet in
    IfErr-weaker c.read_back.result _ _
    (λ why is. why_behind old (g.D.Device.disk c.read_front.new.device) (g.D.Device.disk c.read_back.new.device) (λ (offset : ℕ). ⊥) (λ (offset : ℕ). ⊥) both quiet (λ offset honest wrong. wrong) why is)
    c.read_back.ensures.refused

pub returns-in_default-2-clause-none : goal.returns-in_default-2-clause-none
returns-in_default-2-clause-none g c = λ same.
    let old = g.D.Device.disk c.args.device.now in
    let mid = g.D.Device.disk c.read_at.new.self in
    let reads = one_read old mid c.read_at.result c.read_at.ensures.one_call c.read_at.ensures.kept in
    none_in_front old c.read_at.new.buffer c.in-Some.last_long c.in-Some.count c.args.end c.in-Some.ensures.fit.0 c.in-Some.ensures.fit.1 c.in-Some.ensures.numbers (λ honest. c.in_ok-read_at.ensures.bytes honest) c.requires.long
    (fewer_moved old mid c.in-Some.count c.args.end 32 [] [] reads (c.in_ok-front.ensures.none c.in_default-2.is))

pub returns-clause-none : goal.returns-clause-none
returns-clause-none g c =
    let old = g.D.Device.disk c.args.device.now in
    let mid = g.D.Device.disk c.read_at.new.self in
    let reads = one_read old mid c.read_at.result c.read_at.ensures.one_call c.read_at.ensures.kept in
    let both = and_reads old mid (g.D.Device.disk c.read_front.new.device) reads c.read_front.ensures.reads in
    let front = c.in-Some-2.front in
    IfOk-weaker c.read_back.result _ _
    (λ found none same.
    none_in_back old c.read_at.new.buffer c.in-Some.last_long c.in-Some.count c.args.end c.in-Some.ensures.numbers (λ honest. c.in_ok-read_at.ensures.bytes honest) front.tree front.shelf front.at
    (front_back old mid current_version 32 front.tree front.shelf front.at reads (rw c.in-Some-2.is at c.in_ok-front.ensures.front))
    (rw c.in-Some-2.is at c.in_ok-front.ensures.count) (rw c.in-Some-2.is at c.in_ok-front.ensures.within)
    (back_not_moved old (g.D.Device.disk c.read_front.new.device) c.in-Some.last_long front.at c.args.end front.tree front.shelf both (none same)))
    c.read_back.ensures.none
