use Rattle.std.proofs.Common.{sym}
use Rattle.vault_sessions.proofs.Reporting.{reports_so}
use Rattle.vault_server.proofs.served.parts_of.Goals as goal

pub with-account-requires : goal.with-account-requires
with-account-requires g c =
    let f = c.finish-wire.ensures in
    reports_so _ _ _ _ _ _ _ _ _ c.requires.begun.0 (sym f.connection.0) c.requires.begun.1 (sym f.connection.1) f.heard f.few f.spoken f.told f.written f.quit (f.gone c.requires.over)
