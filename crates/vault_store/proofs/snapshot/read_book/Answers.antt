use Rattle.std.proofs.Common.{◌+◌}
use Rattle.std.proofs.lemmas.Result.{IfOk-weaker}
use Rattle.vault_format.specs.Files.{header}
use Rattle.vault_store.proofs.InPieces.{snapshot_moved}
use Rattle.vault_store.proofs.snapshot.read_book.Goals as goal

pub returns-in-None-clause-book : goal.returns-in-None-clause-book
returns-in-None-clause-book g c =
    IfOk-weaker c.read_whole-in-None.result _ _
    (λ found read. snapshot_moved (g.D.Device.disk c.args.device.now) (g.D.Device.disk c.read_in_pieces.new.device) c.args.version (header + c.args.count) found c.read_in_pieces.ensures.reads read) c.read_whole-in-None.ensures.book
