use Rattle.std.proofs.Common.{sym}
use Rattle.vault_state.specs.Vault.{IsClaim}
use Rattle.vault_state.proofs.Stays.{claim_there}
use Rattle.vault_checkout.proofs.book.Book.show.Goals as goal

pub at_paths-requires : goal.at_paths-requires
at_paths-requires g c =
    let own = claim_there (IsClaim c.self.inside.tree c.self.inside.sessions.items c.self.inside.line.last_long c.self.inside.line.last_short)
    c.self.inside.line.claims c.args.id c.self.invariant.0.claims c.in-Some.claim.now (sym c.in-Some.ensures) in
    rw c.as_slice.ensures.items own.there
