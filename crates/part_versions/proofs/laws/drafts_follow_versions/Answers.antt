use Rattle.vault_state.proofs.Shelves.{versions_of-shelved_all}
use Rattle.part_versions.proofs.laws.drafts_follow_versions.Goals as goal

pub returns : goal.returns
returns c = versions_of-shelved_all
