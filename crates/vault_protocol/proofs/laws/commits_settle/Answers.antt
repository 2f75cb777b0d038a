use Rattle.vault_protocol.proofs.ScriptLaws as scripts
use Rattle.vault_protocol.proofs.laws.commits_settle.Goals as goal

pub returns : goal.returns
returns c = record { settle = scripts.commits_settle; told = scripts.ends_told }
