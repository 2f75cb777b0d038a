use Rattle.std.proofs.Common.{◌+◌}
use Rattle.vault_store.proofs.Steps.{no_reads}
use Rattle.vault_store.proofs.TwoVaults.{decided, unread_older, unread_newer, first_unread, second_unread}
use Rattle.vault_pairing.proofs.two_vaults.is_unrelated.Goals as goal

pub returns-in-Ok-None-clause-unrelated : goal.returns-in-Ok-None-clause-unrelated
returns-in-Ok-None-clause-unrelated g c = λ honest other generation head head_newer.
    unread_older (g.D.Device.disk c.args.older.now).shown (g.D.Device.disk c.args.newer.now).shown ((rw c.in-Ok-None.field-0-is at c.in-Ok-None.ensures.vault) honest)

pub returns-in-Ok-Some-base_in-clause-unrelated : goal.returns-in-Ok-Some-base_in-clause-unrelated
returns-in-Ok-Some-base_in-clause-unrelated g c = λ honest other generation head head_newer.
    decided (g.D.Device.disk c.args.older.now).shown (g.D.Device.disk c.args.newer.now).shown generation c.in-Ok-Some.earlier c.in-Ok-Some-base_in.later c.is_earlier-is_related.result
    ((rw c.in-Ok-Some.field-0-is at c.in-Ok-Some.ensures.vault) honest generation head) ((rw c.in-Ok-Some-base_in.field-0-is at c.in-Ok-Some-base_in.ensures.base) other (generation + 1) head_newer) c.is_earlier-is_related.ensures

pub returns-in-Ok-None-base_in-clause-unrelated : goal.returns-in-Ok-None-base_in-clause-unrelated
returns-in-Ok-None-base_in-clause-unrelated g c = λ honest other generation head head_newer.
    unread_newer (g.D.Device.disk c.args.older.now).shown (g.D.Device.disk c.args.newer.now).shown ((rw c.in-Ok-None-base_in.field-0-is at c.in-Ok-None-base_in.ensures.base) other)

pub returns-in-Ok-None-clause-newer : goal.returns-in-Ok-None-clause-newer
returns-in-Ok-None-clause-newer g c = no_reads (g.D.Device.disk c.args.newer.now)

pub returns-in-Err-clause-newer : goal.returns-in-Err-clause-newer
returns-in-Err-clause-newer g c = no_reads (g.D.Device.disk c.args.newer.now)

pub returns-in-Err-clause-refused : goal.returns-in-Err-clause-refused
returns-in-Err-clause-refused g c = first_unread (g.D.Device.disk c.args.older.now) (g.D.Device.disk c.vault_in.new.device) (g.D.Device.disk c.args.newer.now) c.in-Err.why c.in-Err.ensures.refused

pub returns-in-Err-base_in-clause-refused : goal.returns-in-Err-base_in-clause-refused
returns-in-Err-base_in-clause-refused g c =
    second_unread (g.D.Device.disk c.args.older.now) (g.D.Device.disk c.vault_in.new.device) (g.D.Device.disk c.args.newer.now) (g.D.Device.disk c.base_in.new.device) c.in-Err-base_in.why (rw c.in-Ok-Some.field-0-is at c.in-Ok-Some.ensures.quiet) c.in-Err-base_in.ensures.refused
