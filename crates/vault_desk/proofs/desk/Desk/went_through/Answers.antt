use Rattle.std.proofs.Common.{subst}
use Rattle.vault_desk.specs.AtDesk.{AtDesk}
use Rattle.vault_desk.specs.Sights.{WentThrough, seen_by}
use Rattle.vault_desk.proofs.Seeing.{went_prefix}
use Rattle.vault_desk.proofs.desk.Desk.went_through.Goals as goal

pub returns : goal.returns
returns g c = λ yes.
    subst (λ (s : AtDesk g.row.D.Denot). WentThrough g.S.Tally.beginning s.vault.view (seen_by c.args.sight.now)) c.self.view_is
    (went_prefix g.S.Tally.beginning c.self.inside.vault.view (seen_by c.args.sight.now) c.self.inside.sight (c.covers.ensures yes) c.self.invariant.5)
