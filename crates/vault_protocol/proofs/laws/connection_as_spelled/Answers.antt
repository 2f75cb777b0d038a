use Rattle.vault_protocol.proofs.Connections as connections
use Rattle.vault_protocol.proofs.laws.connection_as_spelled.Goals as goal

pub returns : goal.returns
returns c = connections.connection_as_spelled
