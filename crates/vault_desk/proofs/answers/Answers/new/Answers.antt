use Rattle.std.proofs.Common.{◌≡◌, true, false, List, IfSome, length, ap, sym, subst}
use Rattle.vault_desk.specs.Logs.{logged_next}
use Rattle.vault_desk.specs.declared.report.Out.{Out}
use Rattle.vault_desk.specs.declared.answers.Log.TheOpen.{Log-F}
use Rattle.vault_desk.specs.declared.answers.Log.TheFolds.{fold-roll-Log}
use Rattle.vault_desk.proofs.answers.Answers.new.Goals as goal

pub invariant_of-result : goal.invariant_of-result
unfolding Rattle.vault_desk.specs.declared.answers.Log.TheViews.roll-Log denote.Hole.Carrier.roll
invariant_of-result g c =
    let none = fold-roll-Log g.row.A.Denot (List (Out g.row.A.Denot)) logged_next Log-F.Empty in (
      sym (ap length none),
      subst (λ outs. IfSome c.kept_by-kept.result (λ kept. kept.items ≡ outs)) (sym none) c.kept_by-kept.ensures.none,
      λ e. let x : false ≡ true = e in absurd (cc),
      λ e. let x : false ≡ true = e in absurd (cc),
    )
