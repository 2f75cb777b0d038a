use Rattle.std.proofs.Common.{[], ◌∷◌, ◌++◌, length, ap, sym, ◌∙◌, arith, length-append}
use Rattle.std.specs.Option.{option_copied}
use Rattle.vault_state.specs.Splits.{parts_behind}
use Rattle.vault_state.proofs.Paths.{no_more, too_many, one_more, still_named, all_read}
use Rattle.vault_state.proofs.path.Path.read_names.Goals as goal

pub returns-in_err-name : goal.returns-in_err-name
returns-in_err-name c =
    let first = ap (λ r. parts_behind 47 (option_copied {T = _} r)) c.in-Some.is ∙ c.cut.ensures.parts in
    let all = c.loop-rest.invariant.words ∙ ap (λ ps. c.loop-rest.path ++ ps) first in
    c.from_residual.ensures ∙ no_more _ c.loop-rest.path (parts_behind 47 (option_copied c.cut.result.1)) c.cut.result.0.now all (sym c.read.ensures ∙ c.in_err-name.was)

pub returns-then-len-eq-MAX_NAMES : goal.returns-then-len-eq-MAX_NAMES
returns-then-len-eq-MAX_NAMES c =
    let first = ap (λ r. parts_behind 47 (option_copied {T = _} r)) c.in-Some.is ∙ c.cut.ensures.parts in
    let all = c.loop-rest.invariant.words ∙ ap (λ ps. c.loop-rest.path ++ ps) first in
    too_many _ c.loop-rest.path (parts_behind 47 (option_copied c.cut.result.1)) c.cut.result.0.now all (sym c.len.ensures.len ∙ c.if-len-eq-MAX_NAMES.true)

pub loop-rest-preserved : goal.loop-rest-preserved
loop-rest-preserved c =
    let first = ap (λ r. parts_behind 47 (option_copied {T = _} r)) c.in-Some.is ∙ c.cut.ensures.parts in
    let all = c.loop-rest.invariant.words ∙ ap (λ ps. c.loop-rest.path ++ ps) first in
    let read = sym c.read.ensures ∙ c.in_ok-name.was in
    let longer = ap length c.push.ensures ∙ length-append c.loop-rest.path (c.in_ok-name.name ∷ []) in
    let same = c.len.ensures.len in
    let short = c.loop-rest.invariant.short in
    record {
      short = omega (arith, longer, same, short, c.if-len-eq-MAX_NAMES.false);
      words = one_more _ c.loop-rest.path c.push.new.self (parts_behind 47 (option_copied c.cut.result.1)) c.cut.result.0.now c.in_ok-name.name all read c.push.ensures;
      named = still_named c.loop-rest.path c.push.new.self c.cut.result.0.now c.in_ok-name.name read c.push.ensures c.loop-rest.invariant.named;
    }

pub returns : goal.returns
returns c =
    let none = ap (λ r. parts_behind 47 (option_copied {T = _} r)) c.in_default.is in
    all_read _ c.loop-rest.path (c.loop-rest.invariant.words ∙ ap (λ ps. c.loop-rest.path ++ ps) none) c.loop-rest.invariant.short c.loop-rest.invariant.named
