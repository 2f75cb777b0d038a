use Rattle.std.proofs.Common.{◌≡◌, ◌∙◌, [], sym, ap, subst, arith, length, true}
use Rattle.std.specs.Prelude.{map}
use Rattle.vault_state.specs.Tree.{IsTree}
use Rattle.long_locks.specs.Lines.{LineSeen, IsGrownFrom}
use Rattle.long_locks.proofs.Grown.{grown_itself}
use Rattle.check_outs.specs.Typed.{granted}
use Rattle.check_outs.specs.Parts.{AreFit, opened_all}
use Rattle.vault_checkout.proofs.Agreeing.{saved_granted}
use Rattle.check_outs.proofs.PutIn.{match_length}
use Rattle.vault_checkout.proofs.PartsMade.{match_of, all_rising, all_long, agrees_made, made, vault_made}
use Rattle.vault_checkout.proofs.PartsOf.{parts_long, parts_fit, one_vault}
use Rattle.vault_checkout.proofs.book.Book.from_parts.Goals as goal

pub returns-then-not-are_fit-clause-refused : goal.returns-then-not-are_fit-clause-refused
returns-then-not-are_fit-clause-refused g c = λ v is.
    let fit = parts_fit (record { tree = c.args.tree; shelf = c.args.shelf; last_long = c.args.last_long; claims = c.args.claims.items; drafts = c.args.drafts.items }) v is in
    let yes : c.are_fit.result ≡ true = c.are_fit.ensures.1 (rw (c.deref.ensures.value, c.deref-2.ensures.value) fit) in
    absurd (cc)

pub returns-in-Err-NotWellFormed-clause-refused : goal.returns-in-Err-NotWellFormed-clause-refused
returns-in-Err-NotWellFormed-clause-refused g c = λ v is.
    (rw c.in-Err-NotWellFormed.field-0-is at c.in-Err-NotWellFormed.ensures.refused) (parts_long (record { tree = c.args.tree; shelf = c.args.shelf; last_long = c.args.last_long; claims = c.args.claims.items; drafts = c.args.drafts.items }) v is)

pub returns-in-Err-NoMemory-clause-refused : goal.returns-in-Err-NoMemory-clause-refused
returns-in-Err-NoMemory-clause-refused g c =
    let fit : AreFit c.args.tree c.args.shelf c.args.claims.items c.args.drafts.items = rw (c.deref.ensures.value, c.deref-2.ensures.value) at (c.are_fit.ensures.0 c.if-not-are_fit.false) in
    let line = rw c.in-Err-NoMemory.field-0-is at c.in-Err-NoMemory.ensures.refused in
    let is_tree : IsTree c.args.tree = subst IsTree c.tree.view_is c.tree.invariant.tree_is in
    (made (Unit {0}) c.args.tree c.args.shelf c.args.last_long c.args.claims.items c.args.drafts.items is_tree line fit, vault_made (Unit {0}) c.args.tree c.args.shelf c.args.last_long c.args.claims.items c.args.drafts.items is_tree line fit (omega arith))

pub opened_all-requires-clause-same : goal.opened_all-requires-clause-same
opened_all-requires-clause-same g c =
    let fit : AreFit c.args.tree c.args.shelf c.args.claims.items c.args.drafts.items = rw (c.deref.ensures.value, c.deref-2.ensures.value) at (c.are_fit.ensures.0 c.if-not-are_fit.false) in
    ap (λ (l : LineSeen). length l.claims) c.in-Ok.ensures.made ∙ match_length c.args.claims.items c.args.drafts.items (match_of c.args.tree [] c.args.claims.items c.args.drafts.items fit.may_have)

pub opened_all-requires-clause-rising : goal.opened_all-requires-clause-rising
opened_all-requires-clause-rising g c =
    let fit : AreFit c.args.tree c.args.shelf c.args.claims.items c.args.drafts.items = rw (c.deref.ensures.value, c.deref-2.ensures.value) at (c.are_fit.ensures.0 c.if-not-are_fit.false) in
    all_rising c.args.tree [] c.args.claims.items c.args.drafts.items fit.may_have

pub returns-in_default-clause-refused : goal.returns-in_default-clause-refused
returns-in_default-clause-refused g c =
    let fit : AreFit c.args.tree c.args.shelf c.args.claims.items c.args.drafts.items = rw (c.deref.ensures.value, c.deref-2.ensures.value) at (c.are_fit.ensures.0 c.if-not-are_fit.false) in
    let line = c.in-Ok.ensures.well_formed in
    let is_tree : IsTree c.args.tree = subst IsTree c.tree.view_is c.tree.invariant.tree_is in
    (made (Unit {0}) c.args.tree c.args.shelf c.args.last_long c.args.claims.items c.args.drafts.items is_tree line fit, vault_made (Unit {0}) c.args.tree c.args.shelf c.args.last_long c.args.claims.items c.args.drafts.items is_tree line fit (omega arith))

pub invariant_of-result : goal.invariant_of-result
invariant_of-result g c =
    let fit : AreFit c.args.tree c.args.shelf c.args.claims.items c.args.drafts.items = rw (c.deref.ensures.value, c.deref-2.ensures.value) at (c.are_fit.ensures.0 c.if-not-are_fit.false) in
    let line_is = c.in-Ok.ensures.made in
    let line = c.in-Ok.ensures.well_formed in
    let is_tree : IsTree c.args.tree = subst IsTree c.tree.view_is c.tree.invariant.tree_is in
    let items : c.grant_held.new.check_outs.items ≡ map (granted c.args.tree c.args.claims.items) (opened_all c.args.claims.items c.args.drafts.items) =
    c.grant_held.ensures c.args.tree is_tree (subst (λ (l : LineSeen). IsGrownFrom l.tree c.args.tree) (sym line_is) (grown_itself c.args.tree))
    ∙ ap (λ (l : LineSeen). map (granted c.args.tree l.claims) c.in-Ok-opened_all.check_outs.items) line_is
    ∙ ap (map (granted c.args.tree c.args.claims.items)) (c.in-Ok-opened_all.ensures ∙ ap (λ (l : LineSeen). opened_all l.claims c.args.drafts.items) line_is) in
    rw (line_is, items, c.new.ensures.items, saved_granted c.args.tree c.args.claims.items (opened_all c.args.claims.items c.args.drafts.items)) (
      (vault_made g.row.A.Denot c.args.tree c.args.shelf c.args.last_long c.args.claims.items c.args.drafts.items is_tree line fit (omega arith)).well_formed,
      grown_itself c.args.tree,
      agrees_made g.row.A.Denot c.args.tree c.args.claims.items c.args.drafts.items (all_long c.args.tree c.args.last_long c.args.claims.items line) fit.may_have,
    )

pub returns-clause-made : goal.returns-clause-made
returns-clause-made g c =
    let fit : AreFit c.args.tree c.args.shelf c.args.claims.items c.args.drafts.items = rw (c.deref.ensures.value, c.deref-2.ensures.value) at (c.are_fit.ensures.0 c.if-not-are_fit.false) in
    let line_is = c.in-Ok.ensures.made in
    let line = c.in-Ok.ensures.well_formed in
    let is_tree : IsTree c.args.tree = subst IsTree c.tree.view_is c.tree.invariant.tree_is in
    let items : c.grant_held.new.check_outs.items ≡ map (granted c.args.tree c.args.claims.items) (opened_all c.args.claims.items c.args.drafts.items) =
    c.grant_held.ensures c.args.tree is_tree (subst (λ (l : LineSeen). IsGrownFrom l.tree c.args.tree) (sym line_is) (grown_itself c.args.tree))
    ∙ ap (λ (l : LineSeen). map (granted c.args.tree l.claims) c.in-Ok-opened_all.check_outs.items) line_is
    ∙ ap (map (granted c.args.tree c.args.claims.items)) (c.in-Ok-opened_all.ensures ∙ ap (λ (l : LineSeen). opened_all l.claims c.args.drafts.items) line_is) in
    rw (line_is, items, c.new.ensures.items, saved_granted c.args.tree c.args.claims.items (opened_all c.args.claims.items c.args.drafts.items))
    (vault_made g.row.A.Denot c.args.tree c.args.shelf c.args.last_long c.args.claims.items c.args.drafts.items is_tree line fit (omega arith))

pub returns-clause-only : goal.returns-clause-only
returns-clause-only g c = λ v is.
    let fit : AreFit c.args.tree c.args.shelf c.args.claims.items c.args.drafts.items = rw (c.deref.ensures.value, c.deref-2.ensures.value) at (c.are_fit.ensures.0 c.if-not-are_fit.false) in
    let line_is = c.in-Ok.ensures.made in
    let line = c.in-Ok.ensures.well_formed in
    let is_tree : IsTree c.args.tree = subst IsTree c.tree.view_is c.tree.invariant.tree_is in
    let items : c.grant_held.new.check_outs.items ≡ map (granted c.args.tree c.args.claims.items) (opened_all c.args.claims.items c.args.drafts.items) =
    c.grant_held.ensures c.args.tree is_tree (subst (λ (l : LineSeen). IsGrownFrom l.tree c.args.tree) (sym line_is) (grown_itself c.args.tree))
    ∙ ap (λ (l : LineSeen). map (granted c.args.tree l.claims) c.in-Ok-opened_all.check_outs.items) line_is
    ∙ ap (map (granted c.args.tree c.args.claims.items)) (c.in-Ok-opened_all.ensures ∙ ap (λ (l : LineSeen). opened_all l.claims c.args.drafts.items) line_is) in
    rw (line_is, items, c.new.ensures.items, saved_granted c.args.tree c.args.claims.items (opened_all c.args.claims.items c.args.drafts.items))
    (one_vault (record { tree = c.args.tree; shelf = c.args.shelf; last_long = c.args.last_long; claims = c.args.claims.items; drafts = c.args.drafts.items })
    (made g.row.A.Denot c.args.tree c.args.shelf c.args.last_long c.args.claims.items c.args.drafts.items is_tree line fit) v
    (vault_made g.row.A.Denot c.args.tree c.args.shelf c.args.last_long c.args.claims.items c.args.drafts.items is_tree line fit (omega arith)) is)
