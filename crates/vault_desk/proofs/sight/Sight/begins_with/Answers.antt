use Rattle.std.proofs.Common.{◌≤◌, ap, arith, length, List, subst}
use Rattle.std.proofs.lemmas.Bool.Decides.{nat_tests}
use mathlib.Core.List.{IsPrefix}
use Rattle.group_commit.specs.View.{View}
use Rattle.vault_desk.proofs.Prefixes.{prefix_shorter}
use Rattle.vault_desk.proofs.sight.Sight.begins_with.Goals as goal

pub returns : goal.returns
returns g c = λ less.
    let both = c.learn.new.self.log in
    let this : IsPrefix c.self.inside.seen.log both = subst (λ (l : List View). IsPrefix l both) (ap (λ s. s.log) c.again-both.ensures) c.learn.ensures.2 in
    let order : length c.other.inside.seen.log ≤ length c.self.inside.seen.log = grind (arith, nat_tests, c.self.invariant.0, c.other.invariant.0) in
    rw (← c.self.view_is, ← c.other.view_is) (prefix_shorter c.other.inside.seen.log c.self.inside.seen.log both c.learn.ensures.3 this order)
