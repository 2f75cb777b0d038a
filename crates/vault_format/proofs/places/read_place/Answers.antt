use Rattle.std.proofs.Common.{◌≡◌, ℕ, suc, length, sym, ◌∙◌, ap, subst, arith}
use Rattle.std.proofs.lemmas.Result.{IfOk-weaker}
use Rattle.vault_state.specs.Tree.{is_part}
use Rattle.vault_format.specs.Places.{AreVersionsRead, BeginsWithNoVersions}
use Rattle.vault_format.proofs.Refusals.{passed}
use Rattle.vault_format.proofs.PlaceRead.{nameless, no_part_read, part_read, versionless}
use Rattle.vault_format.proofs.places.read_place.Goals as goal

pub returns-in_err-rest-clause-refused : goal.returns-in_err-rest-clause-refused
returns-in_err-rest-clause-refused g c = λ same.
    nameless c.args.version c.args.tree.now c.args.shelf.now c.requires.versions c.args.bytes.now (passed c.from_residual.result c.in_err-rest.field-0.0 c.from_residual.ensures.1 c.in_err-rest.ensures.refused same)

pub returns-then-not-is_part-clause-read : goal.returns-then-not-is_part-clause-read
returns-then-not-is_part-clause-read g c =
    let number : suc (length c.args.tree.now) ≡ c.args.place = omega (arith, c.requires.next) in
    let is : c.is_part.result ≡ is_part c.read_name.new.tree (suc (length c.args.tree.now)) = c.is_part.ensures ∙ sym (ap (is_part c.read_name.new.tree) number) in
    no_part_read c.args.version c.args.tree.now c.args.shelf.now c.requires.versions c.args.bytes.now c.read_name.new.tree c.in_ok-rest.rest.now c.in_ok-rest.ensures.read (sym is ∙ c.if-not-is_part.true)

pub returns-clause-read : goal.returns-clause-read
returns-clause-read g c =
    let number : suc (length c.args.tree.now) ≡ c.args.place = omega (arith, c.requires.next) in
    let is : c.is_part.result ≡ is_part c.read_name.new.tree (suc (length c.args.tree.now)) = c.is_part.ensures ∙ sym (ap (is_part c.read_name.new.tree) number) in
    IfOk-weaker c.read_versions.result _ _
    (λ rest read.
    part_read c.args.version c.args.tree.now c.args.shelf.now c.requires.versions c.args.bytes.now c.read_name.new.tree c.in_ok-rest.rest.now c.in_ok-rest.ensures.read (sym is ∙ c.if-not-is_part.false)
    c.read_versions.new.shelf rest.now (subst (λ (p : ℕ). AreVersionsRead p c.args.shelf.now c.read_versions.new.shelf c.in_ok-rest.rest.now rest.now) (sym number) read))
    c.read_versions.ensures.read

pub returns-clause-refused : goal.returns-clause-refused
returns-clause-refused g c = λ same.
    let number : suc (length c.args.tree.now) ≡ c.args.place = omega (arith, c.requires.next) in
    let is : c.is_part.result ≡ is_part c.read_name.new.tree (suc (length c.args.tree.now)) = c.is_part.ensures ∙ sym (ap (is_part c.read_name.new.tree) number) in
    versionless c.args.version c.args.tree.now c.args.shelf.now c.requires.versions c.args.bytes.now c.read_name.new.tree c.in_ok-rest.rest.now c.in_ok-rest.ensures.read (sym is ∙ c.if-not-is_part.false)
    (subst (λ (p : ℕ). BeginsWithNoVersions p c.args.shelf.now c.in_ok-rest.rest.now) (sym number) (c.read_versions.ensures.refused same))
