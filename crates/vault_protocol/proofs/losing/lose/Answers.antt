use Rattle.std.proofs.Common.{◌∙◌, ◌++◌, ap, sym, append_assoc}
use Rattle.std.specs.Prelude.{option_to_list}
use Rattle.vault_protocol.specs.Saying.{known_texts}
use Rattle.vault_protocol.specs.Waiting.{lines_of}
use Rattle.vault_protocol.proofs.FirstLine.{known_first, all_known, one_fewer}
use Rattle.vault_protocol.proofs.Lost.{lost_then}
use Rattle.vault_protocol.proofs.losing.lose.Goals as goal

pub loop-line-preserved : goal.loop-line-preserved
loop-line-preserved g c = record {
  texts =
      ap (λ bytes. bytes ++ known_texts (lines_of c.pop_front.new.self.items)) c.in-Ok.ensures.text
      ∙ append_assoc c.loop-line.out.items _ _
      ∙ ap (λ bytes. c.loop-line.out.items ++ bytes) (sym (known_first c.in-Some.line c.pop_front.new.self.items))
      ∙ ap (λ items. c.loop-line.out.items ++ known_texts (lines_of items)) (sym (c.pop_front.ensures.items ∙ ap (λ r. option_to_list r ++ c.pop_front.new.self.items) c.in-Some.is))
      ∙ c.loop-line.invariant.texts;
  vault = lost_then c.args.vault.now c.loop-line.vault c.lose_one.new.vault c.loop-line.invariant.vault c.in-Ok.ensures.vault;
}

pub loop-line-smaller : goal.loop-line-smaller
loop-line-smaller g c = one_fewer c.loop-line.lines.items c.pop_front.new.self.items c.in-Some.line c.in-Some.ensures.items

pub returns-clause-text : goal.returns-clause-text
returns-clause-text g c =
    all_known c.loop-line.lines.items c.loop-line.out.items _ c.loop-line.lines.len (sym c.loop-line.lines.ok.0) c.in_default.ensures.cases.0 c.loop-line.invariant.texts
