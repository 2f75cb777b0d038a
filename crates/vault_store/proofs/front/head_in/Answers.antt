use Rattle.std.proofs.Common.{◌≡◌, inr, refl, arith, rules, ap, ◌∙◌}
use Rattle.std.specs.Prelude.{slice_range}
use Rattle.vault_journal.specs.Spelling.{in_four, in_eight}
use Rattle.vault_journal.specs.Laws.{AreBytes}
use Rattle.vault_format.specs.Files.{mark, version_number}
use Rattle.vault_format.proofs.Heads.{right_head, generation_spelled}
use Rattle.vault_store.proofs.front.head_in.Goals as goal

pub returns-then-generation-eq0 : goal.returns-then-generation-eq0
returns-then-generation-eq0 c =
    let fits : AreBytes c.args.bytes.now = c.fits-bytes in
    let mark_is : slice_range c.args.bytes.now 1 8 ≡ mark = search rules in
    let version_is : slice_range c.args.bytes.now 8 12 ≡ in_four (version_number c.in-Some.version) = search rules in
    let zero : slice_range c.args.bytes.now 12 20 ≡ in_eight 0 =
    generation_spelled c.args.bytes.now c.told-bytes fits c.from_be_bytes-generation.result c.from_be_bytes-generation.ensures ∙ ap in_eight c.if-generation-eq0.true in
    (record { long = omega (arith, c.told-bytes); gate = c.if-bytes-ne1.false }, inr (inr (refl, mark_is, (c.in-Some.version, version_is), zero)))

pub returns : goal.returns
returns c =
    let fits : AreBytes c.args.bytes.now = c.fits-bytes in
    let mark_is : slice_range c.args.bytes.now 1 8 ≡ mark = search rules in
    let version_is : slice_range c.args.bytes.now 8 12 ≡ in_four (version_number c.in-Some.version) = search rules in
    right_head c.args.bytes.now c.told-bytes fits c.in-Some.version c.from_be_bytes-generation.result c.if-bytes-ne1.false mark_is version_is c.from_be_bytes-generation.ensures (omega (arith, c.if-generation-eq0.false)) (omega arith)
