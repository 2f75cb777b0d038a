use Rattle.std.proofs.Common.{subst, sym, ap, ◌∙◌, ◌++◌, ◌∷◌, [], List, refl}
use Rattle.group_commit.specs.View.{View}
use Rattle.vault_desk.specs.AtDesk.{AtDesk}
use Rattle.vault_desk.specs.Sights.{WentThrough}
use Rattle.vault_desk.proofs.Seeing.{went_here}
use Rattle.vault_desk.proofs.desk.Desk.show.Goals as goal

pub invariant_of-self : goal.invariant_of-self
invariant_of-self g c =
    let i = c.self.invariant in
    (i.0, i.1, i.2, i.3, i.4, subst (λ (l : List View). WentThrough g.S.Tally.beginning c.self.inside.vault.view l) (sym c.and.ensures) (went_here g.S.Tally.beginning c.self.inside.vault.view c.self.inside.sight i.5 i.4))

pub returns : goal.returns
returns g c = record {
  same = c.self.view_is;
  shown = (c.self.inside.sight, c.again.ensures ∙ (c.and.ensures ∙ ap (λ (s : AtDesk g.row.D.Denot). c.self.inside.sight ++ s.vault.view ∷ []) c.self.view_is));
  went = subst (λ (s : AtDesk g.row.D.Denot). WentThrough g.S.Tally.beginning s.vault.view c.again.result) c.self.view_is
      (subst (λ (l : List View). WentThrough g.S.Tally.beginning c.self.inside.vault.view l) (sym (c.again.ensures ∙ c.and.ensures))
      (went_here g.S.Tally.beginning c.self.inside.vault.view c.self.inside.sight c.self.invariant.5 c.self.invariant.4));
}
