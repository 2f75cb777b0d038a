use Rattle.std.proofs.Common.{ap, sym, subst, ◌∙◌}
use Rattle.std.specs.Map.{values_of}
use Rattle.std.proofs.lemmas.List.Elements.{same_from_all_zip}
use Rattle.long_locks.specs.Keyed.{ClaimsSeen, AreKeyed}
use Rattle.long_locks.proofs.claims.Claims.copy.Goals as goal

pub invariant_of-result : goal.invariant_of-result
invariant_of-result g c =
    let same = same_from_all_zip _ c.self.inside.by_id.entries c.in_ok-clone.field-0.entries c.in_ok-clone.ensures.cases (λ x y e. (λ j. (e.0 j, e.1 j))) in
    subst AreKeyed (sym same) c.self.invariant

pub returns : goal.returns
returns g c =
    let same = same_from_all_zip _ c.self.inside.by_id.entries c.in_ok-clone.field-0.entries c.in_ok-clone.ensures.cases (λ x y e. (λ j. (e.0 j, e.1 j))) in
    ap values_of same ∙ ap (λ (x : ClaimsSeen). x.claims) c.self.view_is
