use Rattle.std.proofs.Common.{◌≢◌, ◌++◌, arith, inr}
use Rattle.std.proofs.lemmas.List.Elements.{All-append}
use Rattle.vault_model.specs.declared.replies.Outside.TheVariants.{BadLine}
use Rattle.vault_desk.specs.declared.report.Out.TheVariants.{Refused}
use Rattle.vault_desk.specs.declared.report.Ended.TheVariants.{EndOfInput, Read, Limit}
use Rattle.vault_desk.proofs.Heard.{long_is_bad, hears_line}
use Rattle.vault_desk.proofs.Talks.{cuts_part, part_more, part_rest, whole_line}
use Rattle.vault_desk.proofs.clerk.Clerk.next.Goals as goal

pub returns-in-NotYet-clause-heard : goal.returns-in-NotYet-clause-heard
returns-in-NotYet-clause-heard g c = λ start outs heard.
    let (part, before, so_far, pending, taken, within, one, keeps) = heard in
    let (more, consumes, gives) = c.in-NotYet.ensures.line part keeps in
    let (piece, bytes, one_more, kept, grown, few) = gives in
    part_more start _ _ before _ _ part piece more _ _ outs so_far pending taken one consumes bytes one_more kept grown few

pub returns-in-Whole-clause-heard : goal.returns-in-Whole-clause-heard
returns-in-Whole-clause-heard g c = λ start outs heard.
    let (part, before, so_far, pending, taken, within, one, keeps) = heard in
    let (more, consumes, gives) = c.in-Whole.ensures.line part keeps in
    let (piece, cut, line, short) = gives in
    let fits = rw (c.as_slice.ensures.value, line) at c.ask-heard.ensures.fits in
    let few = rw line at short in
    rw c.begin_line.ensures.same.0 (whole_line start _ _ before _ outs more (part ++ piece) c.ask-heard.result _ _ (fits few) few so_far consumes (cuts_part before _ _ part more piece pending taken one cut) c.begin_line.ensures.begun)

pub returns-in-TooLong-clause-heard : goal.returns-in-TooLong-clause-heard
returns-in-TooLong-clause-heard g c = λ start outs heard.
    let (part, before, so_far, pending, taken, within, one, keeps) = heard in
    let (more, consumes, gives) = c.in-TooLong.ensures.line part keeps in
    let (piece, cut, big) = gives in
    (rw (c.bad_line.ensures, c.begin_line-in-TooLong.ensures.same.0) (hears_line start _ _ before _ outs more (part ++ piece) (Refused BadLine) so_far consumes (cuts_part before _ _ part more piece pending taken one cut) (long_is_bad (part ++ piece) big)), c.begin_line-in-TooLong.ensures.begun)

pub returns-in-End-clause-heard : goal.returns-in-End-clause-heard
returns-in-End-clause-heard g c = λ start outs heard.
    let (part, before, so_far, pending, taken, within, one, keeps) = heard in
    let (more, consumes, gives) = c.in-End.ensures.line part keeps in
    (part_rest start _ _ _ _ _ outs more EndOfInput heard consumes (λ part given one size. (gives.1, All-append (λ b. b ≢ 10) part _ one gives.0)), tt)

pub returns-in-Fault-clause-heard : goal.returns-in-Fault-clause-heard
returns-in-Fault-clause-heard g c = λ start outs heard.
    let (part, before, so_far, pending, taken, within, one, keeps) = heard in
    let (more, consumes, gives) = c.in-Fault.ensures.line part keeps in
    (part_rest start _ _ _ _ _ outs more Read heard consumes (λ part given one size. tt), tt)

pub returns-in-Limit-clause-heard : goal.returns-in-Limit-clause-heard
returns-in-Limit-clause-heard g c = λ start outs heard.
    let (part, before, so_far, pending, taken, within, one, keeps) = heard in
    let (more, consumes, gives) = c.in-Limit.ensures.line part keeps in
    (part_rest start _ _ _ _ _ outs more Limit heard consumes (λ part given one size. inr (omega (arith, size, gives))), tt)
