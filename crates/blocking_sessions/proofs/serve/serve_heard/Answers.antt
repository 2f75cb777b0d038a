use Rattle.std.proofs.Common.{rules, ap, sym, ◌∙◌}
use Rattle.blocking_sessions.proofs.Reports.{none_heard, none_written, written_of}
use Rattle.blocking_sessions.proofs.serve.serve_heard.Goals as goal

pub returns-in-Err-clause-heard : goal.returns-in-Err-clause-heard
returns-in-Err-clause-heard g c = none_heard _ _ _ (search rules) (search rules)

pub returns-in-Err-clause-written : goal.returns-in-Err-clause-written
returns-in-Err-clause-written g c =
    let back = c.in-Err.ensures.handed_back.0 in
    let now = c.writer-1.given.1 (sym (ap (λ j. j.writer.ghost_name) back)) in
    none_written _ _ _ (search rules) (ap g.W.Write.contents (now ∙ ap (λ j. j.writer.now) back))

pub returns-clause-written : goal.returns-clause-written
returns-clause-written g c =
    let made = c.in-Ok.ensures.made in
    let began = c.converse.ensures.began in
    let told = c.report_of-report.ensures in
    let names = c.finish-joined.ensures.connection.2 ∙ (ap (λ b. b.names) began ∙ ap (λ d. d.began.names) made) in
    let now = c.writer-2-1.given.1 (sym (ap (λ n. n.1) names)) in
    written_of _ _ _ _ _ _ _ _ c.finish-joined.ensures.written (ap (λ b. b.contents) began ∙ ap (λ d. d.began.contents) made)
    (sym (ap g.W.Write.contents now ∙ c.finish-joined.ensures.connection.1)) (sym told.0) (sym told.2)
