use Rattle.std.proofs.Common.{sym, ap, ◌∙◌}
use Rattle.group_commit.specs.View.{View, opened_view}
use Rattle.group_commit.proofs.promises.a_past_goes_on.Goals as goal

pub returns-clause-begins : goal.returns-clause-begins
returns-clause-begins g c = λ new.
    let kept = c.a_vault_keeps_its_history.ensures in
    (record { sound = kept.sound; stands = kept.store }, new ∙ ap opened_view (sym (ap (λ (v : View). v.base) new)))

pub returns-clause-new : goal.returns-clause-new
returns-clause-new g c = λ new. ap (λ (v : View). v.base) new

pub returns-clause-opened : goal.returns-clause-opened
returns-clause-opened g c = λ opened. let kept = c.a_vault_keeps_its_history.ensures in (record { sound = kept.sound; stands = kept.store }, opened)
