use Rattle.std.proofs.Common.{◌++◌, length, ap}
use Rattle.std.proofs.lemmas.List.{drop-replicate}
use Rattle.vault_state.proofs.name.in_room.Goals as goal

pub returns : goal.returns
returns c =
    rw c.copy_from_slice.ensures.after
    (ap (λ r. c.args.text.now ++ r) (drop-replicate (length c.args.text.now) 32 0))
