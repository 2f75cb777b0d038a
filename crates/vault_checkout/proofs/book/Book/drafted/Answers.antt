use Rattle.check_outs.specs.Typed.{saved}
use Rattle.vault_checkout.proofs.Shown.{drafts_there}
use Rattle.vault_checkout.proofs.book.Book.drafted.Goals as goal

pub paths_of-requires : goal.paths_of-requires
paths_of-requires g c =
    rw (c.drafts.ensures, ← c.self.view_is)
    (drafts_there c.self.inside.tree c.self.inside.line.claims (saved c.self.inside.check_outs.items) c.args.number c.self.invariant.0.drafts)
