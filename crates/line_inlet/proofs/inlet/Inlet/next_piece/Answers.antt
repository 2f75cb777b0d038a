use Rattle.line_inlet.proofs.Bytes.{gives_read}
use Rattle.line_inlet.proofs.inlet.Inlet.next_piece.Goals as goal

pub returns-in-Waiting-clause-given : goal.returns-in-Waiting-clause-given
returns-in-Waiting-clause-given g c = λ so_far keeps.
    let (given, consumes, fills) = c.in-Waiting.ensures.given in
    (given, consumes, gives_read _ _ _ given so_far _ _ c.take_piece.result _ fills.0 fills.2 (c.take_piece.ensures.taken so_far keeps))
