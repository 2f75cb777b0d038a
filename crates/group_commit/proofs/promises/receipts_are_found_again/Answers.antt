use Rattle.vault_store.proofs.Left.{crash_leaves, one_gate}
use Rattle.group_commit.proofs.Headline.{found_again}
use Rattle.group_commit.proofs.promises.receipts_are_found_again.Goals as goal

pub returns : goal.returns
returns g c =
    let disk = g.D.Device.disk in
    found_again disk (crash_leaves disk) (one_gate disk) c.files_stand_for_one_vault.ensures.vault c.files_stand_for_one_vault.ensures.right c.args.vault.now
