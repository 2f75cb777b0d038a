use Rattle.std.proofs.Common.{◌≡◌, true, false, List, ◌++◌, ◌∷◌, [], IfSome, length, length-append, arith, ap, sym, subst, ◌∙◌}
use Rattle.vault_desk.specs.Logs.{logged, logged_next}
use Rattle.vault_desk.specs.declared.report.Out.{Out}
use Rattle.vault_desk.specs.declared.answers.Log.TheOpen.{Log-F}
use Rattle.vault_desk.specs.declared.answers.Log.TheViews.{More}
use Rattle.vault_desk.specs.declared.answers.Log.TheFolds.{fold-roll-Log}
use Rattle.vault_desk.proofs.answers.Answers.push.Goals as goal

pub invariant_of-self : goal.invariant_of-self
unfolding Rattle.vault_desk.specs.declared.answers.Log.TheViews.roll-Log denote.Hole.Carrier.roll
invariant_of-self g c =
    let before : List (Out g.row.A.Denot) = logged c.self.inside.log in
    let more : logged (More c.of.result c.of-2.result) ≡ before ++ c.args.out ∷ [] = fold-roll-Log g.row.A.Denot (List (Out g.row.A.Denot)) logged_next (Log-F.More c.of.result c.of-2.result)
    ∙ (ap (λ log. logged log ++ c.of-2.result.value ∷ []) c.of.ensures ∙ ap (λ out. before ++ out ∷ []) c.of-2.ensures) in (
      omega (arith, c.self.invariant.0, ap length more, length-append before (c.args.out ∷ [])),
      subst (λ outs. IfSome c.keep.new.kept (λ kept. kept.items ≡ outs)) (sym more) (c.keep.ensures.values before c.self.invariant.1),
      λ e. let x : false ≡ true = e in absurd (cc),
      λ e. let x : false ≡ true = e in absurd (cc),
    )
