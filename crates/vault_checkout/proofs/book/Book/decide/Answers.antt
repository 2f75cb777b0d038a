use Rattle.std.proofs.Common.{◌≡◌, Some, rules}
use Rattle.vault_state.specs.Vault.{session_of}
use Rattle.vault_model.proofs.Kept.{session_stands}
use Rattle.vault_checkout.proofs.book.Book.decide.Goals as goal

pub in_session-requires : goal.in_session-requires
in_session-requires g c =
    let found : session_of c.self.inside.sessions.items c.args.number ≡ Some c.in-Some.session.now = search rules in
    rw (← c.self.view_is) (session_stands c.self.inside.sessions.items c.args.number c.in-Some.session.now found)
