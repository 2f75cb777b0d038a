use Rattle.vault_format.proofs.Refusals.{none_refused}
use Rattle.vault_format.proofs.places.read_places.Goals as goal

pub returns-clause-read : goal.returns-clause-read
returns-clause-read g c = c.in_ok-rest.ensures.read

pub returns-clause-refused : goal.returns-clause-refused
returns-clause-refused g c = none_refused _ _
