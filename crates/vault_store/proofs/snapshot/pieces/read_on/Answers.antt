use Rattle.std.proofs.Common.{◌-◌, ◌≤◌, Err, length, ap, ◌∙◌, arith}
use Rattle.std.proofs.lemmas.Bool.Decides.{nat_tests}
use Rattle.vault_format.specs.Snapshot.{current_version}
use Rattle.vault_store.proofs.InPieces.{rest_within, read_on}
use Rattle.vault_store.proofs.NotInPieces.{refused_in_piece, stuck}
use Rattle.vault_store.proofs.snapshot.pieces.read_on.Goals as goal

pub returns-in-Err-NotWellFormed-clause-off : goal.returns-in-Err-NotWellFormed-clause-off
returns-in-Err-NotWellFormed-clause-off g c = λ same start.
    refused_in_piece (g.D.Device.disk c.args.device.now) c.args.extent.count c.args.extent.end c.args.front.now.at c.min-count.result c.args.front.now.tree c.args.front.now.shelf c.requires.are c.deref.result.now
    (ap length c.deref.ensures.value ∙ c.in_ok-read_over.ensures.size) (λ honest. c.deref.ensures.value ∙ c.in_ok-read_over.ensures.bytes honest)
    (omega (arith, c.requires.within, c.min-count.ensures)) (λ more. c.in-Err-NotWellFormed.ensures.refused (ap Err c.in-Err-NotWellFormed.field-0-is) more)

pub returns-clause-on : goal.returns-clause-on
returns-clause-on g c = λ some.
    let size = ap length c.deref.ensures.value ∙ c.in_ok-read_over.ensures.size in
    let within = rest_within current_version c.args.front.now.tree c.args.front.now.shelf c.read_places_on.new.tree c.read_places_on.new.shelf c.deref.result.now c.in-Ok.rest.now c.in-Ok.ensures.read in
    read_on (g.D.Device.disk c.args.device.now) current_version c.args.extent.end c.args.front.now.at c.min-count.result c.args.front.now.tree c.args.front.now.shelf c.read_places_on.new.tree c.read_places_on.new.shelf c.deref.result.now c.in-Ok.rest.now
    (c.min-count.result - length c.in-Ok.rest.now) c.in-Ok.ensures.read size (λ honest. c.deref.ensures.value ∙ c.in_ok-read_over.ensures.bytes honest)
    (omega (arith, c.requires.within, c.min-count.ensures)) (omega (arith, within, size)) (grind (arith, nat_tests, some))

pub returns-clause-off : goal.returns-clause-off
returns-clause-off g c = λ none start.
    let size = ap length c.deref.ensures.value ∙ c.in_ok-read_over.ensures.size in
    let nothing_taken : c.min-count.result - length c.in-Ok.rest.now ≤ 0 = grind (arith, nat_tests, none) in
    stuck (g.D.Device.disk c.args.device.now) c.args.extent.count c.args.extent.end c.args.front.now.at c.min-count.result c.args.front.now.tree c.args.front.now.shelf c.requires.are c.deref.result.now
    size (λ honest. c.deref.ensures.value ∙ c.in_ok-read_over.ensures.bytes honest) (omega (arith, c.requires.within, c.min-count.ensures)) start
    c.read_places_on.new.tree c.read_places_on.new.shelf c.in-Ok.rest.now c.in-Ok.ensures.read c.in-Ok.ensures.all (omega (arith, nothing_taken)) (λ short. omega (arith, short, c.requires.within, c.min-count.ensures))
