use Rattle.std.proofs.Common.{◌∙◌, ap, sym}
use Rattle.std.specs.Option.{option_copied}
use Rattle.std.specs.List.{slice_split}
use Rattle.std.specs.Prelude.{◌==◌}
use Rattle.vault_state.specs.Splits.{parts_behind}
use Rattle.vault_protocol.specs.Script.{printed}
use Rattle.vault_protocol.proofs.Written.{written_more, written_all, written_prefix, written_cut, on_err_since, on_ok_then, on_err_then}
use Rattle.vault_protocol.proofs.LineByLine.{written_start, written_line, written_end, fewer_left, no_front}
use Rattle.vault_protocol.proofs.script.run_lines.Goals as goal

pub loop-rest-init : goal.loop-rest-init
loop-rest-init g c = written_start _ _ _ (ap (λ talk. printed talk (slice_split (λ b. b == 10) c.args.script.now)) (sym c.in_ok-runner.ensures.new))

pub returns-in_err-runner-2-clause-err : goal.returns-in_err-runner-2-clause-err
returns-in_err-runner-2-clause-err g c = on_err_since _ (written_prefix _ _ _ _ c.loop-rest.invariant)

pub returns-in-Err-clause-err : goal.returns-in-Err-clause-err
returns-in-Err-clause-err g c =
    let cut = c.in-Err.ensures.err in
    let first = ap (λ r. parts_behind 10 (option_copied {T = _} r)) c.in-Some.is ∙ c.cut.ensures.parts in
    written_cut _ _ _ _ _ _ _ cut.1
    (written_line _ _ _ _ _ _ _ _ _ c.loop-rest.invariant first (c.deref.ensures.value ∙ no_front _ _ _ c.clear.ensures.items c.in_ok-runner-2.ensures.text) c.in_ok-runner-2.ensures.state)
    cut.2

pub loop-rest-smaller : goal.loop-rest-smaller
loop-rest-smaller g c = fewer_left c.loop-rest.rest c.cut.result.1 c.in-Some.bytes c.in-Some.is c.cut.ensures.shorter

pub loop-rest-preserved : goal.loop-rest-preserved
loop-rest-preserved g c =
    let first = ap (λ r. parts_behind 10 (option_copied {T = _} r)) c.in-Some.is ∙ c.cut.ensures.parts in
    written_more _ _ _ _ _ _
    (written_line _ _ _ _ _ _ _ _ _ c.loop-rest.invariant first (c.deref.ensures.value ∙ no_front _ _ _ c.clear.ensures.items c.in_ok-runner-2.ensures.text) c.in_ok-runner-2.ensures.state)
    c.in_default-write_text.ensures.ok

pub returns-in_err-finish-clause-err : goal.returns-in_err-finish-clause-err
returns-in_err-finish-clause-err g c = on_err_since _ (written_prefix _ _ _ _ c.loop-rest.invariant)

pub returns-clause-ok : goal.returns-clause-ok
returns-clause-ok g c =
    let none = ap (λ r. parts_behind 10 (option_copied {T = _} r)) c.in_default.is in
    on_ok_then c.write_text-2.result
    (λ appends. written_all _ _ _ (written_more _ _ _ _ _ _ (written_end _ _ _ _ _ _ c.loop-rest.invariant none (c.deref-2.ensures.value ∙ no_front _ _ _ c.clear-2.ensures.items c.in_ok-finish.ensures.text)) appends))
    c.write_text-2.ensures.ok

pub returns-clause-err : goal.returns-clause-err
returns-clause-err g c =
    let none = ap (λ r. parts_behind 10 (option_copied {T = _} r)) c.in_default.is in
    on_err_then c.write_text-2.result
    (λ cut. written_cut _ _ _ _ _ _ _ cut.1 (written_end _ _ _ _ _ _ c.loop-rest.invariant none (c.deref-2.ensures.value ∙ no_front _ _ _ c.clear-2.ensures.items c.in_ok-finish.ensures.text)) cut.2)
    c.write_text-2.ensures.err
