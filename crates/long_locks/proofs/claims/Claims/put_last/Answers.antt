use Rattle.std.proofs.Common.{◌≡◌, None, sym, ap, subst, ◌∙◌}
use Rattle.std.specs.Map.{values_of, lookup}
use Rattle.indexmap.proofs.CallerLemmas.{insert_entry-new}
use Rattle.vault_state.specs.Claims.{claim_of}
use Rattle.long_locks.specs.Keyed.{ClaimsSeen, AreKeyed}
use Rattle.long_locks.proofs.Keyed.{id_eq, id_eq_is, found, keyed_pushed, values_pushed}
use Rattle.long_locks.proofs.claims.Claims.put_last.Goals as goal

pub invariant_of-self : goal.invariant_of-self
invariant_of-self g c =
    let es = c.self.inside.by_id.entries in
    let none : lookup (id_eq c.args.claim.id) es ≡ None = found id_eq id_eq_is es c.args.claim.id c.self.invariant ∙ subst (λ (s : ClaimsSeen). claim_of s.claims c.args.claim.id ≡ None) (sym c.self.view_is) c.requires.new in
    let last = rw (c.unwrap.ensures, c.claim.ensures) at c.insert.ensures.entries in
    subst AreKeyed (sym (last ∙ insert_entry-new id_eq c.self.inside.by_id c.args.claim.id c.args.claim none)) (keyed_pushed es c.args.claim c.self.invariant)

pub returns : goal.returns
returns g c =
    let es = c.self.inside.by_id.entries in
    let none : lookup (id_eq c.args.claim.id) es ≡ None = found id_eq id_eq_is es c.args.claim.id c.self.invariant ∙ subst (λ (s : ClaimsSeen). claim_of s.claims c.args.claim.id ≡ None) (sym c.self.view_is) c.requires.new in
    let last = rw (c.unwrap.ensures, c.claim.ensures) at c.insert.ensures.entries in
    rw (← c.self.view_is) (ap values_of (last ∙ insert_entry-new id_eq c.self.inside.by_id c.args.claim.id c.args.claim none) ∙ values_pushed es c.args.claim)
