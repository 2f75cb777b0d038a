use Rattle.std.proofs.Common.{ap}
use Rattle.vault_sessions.proofs.Reporting.{counted_none}
use Rattle.vault_server.proofs.place.Place.new.Goals as goal

pub invariant_of-result : goal.invariant_of-result
invariant_of-result g c = record { counted = counted_none _ c.args.share (ap (λ a. a.reports) c.new.ensures) c.requires.0 c.requires.1 }
