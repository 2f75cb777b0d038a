use Rattle.std.proofs.Common.{sym, ap, subst, true, ◌≡◌, ◌∙◌}
use Rattle.vault_state.specs.Tree.{kind_at, kind_under, may_have}
use Rattle.vault_state.proofs.Depths.{may_have_made}
use Rattle.design_tree.proofs.tree.Tree.kind_under.Goals as goal

pub returns-clause-may_have : goal.returns-clause-may_have
returns-clause-may_have g c other =
    let is : c.kind_at.result ≡ kind_under c.args.self.now c.args.parent = c.kind_at.ensures ∙ ap kind_at c.depth_under.ensures.depth in
    subst (λ kind. may_have c.args.self.now c.args.parent kind ≡ true) (sym is) (may_have_made c.args.self.now c.args.parent c.depth_under.ensures.tree other)
