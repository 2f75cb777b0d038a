use Rattle.vault_store.proofs.Companions.{files_pass}
use Rattle.vault_store.proofs.Growing.{grown}
use Rattle.vault_store.proofs.Passes.{closed_pass, frames_leave, torn_pass, snapshots_pass}
use Rattle.vault_store.proofs.laws.files_of_one_vault_pass.Goals as goal

pub returns-clause-reached : goal.returns-clause-reached
returns-clause-reached g c = files_pass g.D.Device.disk

pub returns-clause-closed : goal.returns-clause-closed
returns-clause-closed g c = closed_pass

pub returns-clause-committed : goal.returns-clause-committed
returns-clause-committed g c = frames_leave

pub returns-clause-torn : goal.returns-clause-torn
returns-clause-torn g c = torn_pass

pub returns-clause-renewed : goal.returns-clause-renewed
returns-clause-renewed g c = snapshots_pass g.D.Device.disk

pub returns-clause-effects : goal.returns-clause-effects
returns-clause-effects g c = grown
