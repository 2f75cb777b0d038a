use Rattle.vault_format.proofs.Short.{spelled_short, none_is_longer}
use Rattle.vault_format.proofs.Spelled.{snapshot_tells, now_spelled}
use Rattle.vault_format.proofs.laws.a_spelling_is_of_one_vault.Goals as goal

pub returns : goal.returns
returns c = record { one = snapshot_tells; all = now_spelled; short = spelled_short; longest = none_is_longer }
