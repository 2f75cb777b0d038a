use Rattle.vault_protocol.proofs.ScriptLaws as scripts
use Rattle.vault_protocol.proofs.laws.replies_are_told.Goals as goal

pub returns : goal.returns
returns c = scripts.replies_are_told
