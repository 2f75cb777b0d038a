use Rattle.vault_store.proofs.Left.{crash_leaves, one_gate}
use Rattle.group_commit.proofs.Images.{images_stand}
use Rattle.group_commit.proofs.promises.images_stand_for_the_history.Goals as goal

pub returns : goal.returns
returns g c = images_stand g.D.Device.disk c.args.vault.now (crash_leaves g.D.Device.disk) (one_gate g.D.Device.disk) c.a_vault_keeps_its_history.ensures.store
