use Rattle.vault_store.proofs.Left.{crash_leaves, one_gate}
use Rattle.group_commit.proofs.Images.{one_prefix}
use Rattle.group_commit.proofs.Headline.{kept_through}
use Rattle.group_commit.proofs.promises.recovery_gives_one_prefix.Goals as goal

pub returns-clause-past : goal.returns-clause-past
returns-clause-past g c =
    let disk = g.D.Device.disk in
    λ past p. kept_through disk (crash_leaves disk) (one_gate disk) c.files_stand_for_one_vault.ensures.vault c.files_stand_for_one_vault.ensures.right c.args.vault.now past p

pub returns-clause-run : goal.returns-clause-run
returns-clause-run g c = one_prefix g.D.Device.disk c.args.vault.now c.images_stand_for_the_history.ensures
