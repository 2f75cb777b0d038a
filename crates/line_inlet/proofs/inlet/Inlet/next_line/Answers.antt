use Rattle.std.proofs.Common.{[], ◌++◌, ◌∙◌, refl, rules, arith}
use Rattle.line_inlet.proofs.Readings.{gave_none, gave_both}
use Rattle.line_inlet.proofs.Bytes.{begins, goes_on, whole, too_long, ends, exceeds, waits}
use Rattle.line_inlet.proofs.inlet.Inlet.next_line.Goals as goal

pub loop-is_longer-init : goal.loop-is_longer-init
loop-is_longer-init g c = (search rules, λ part keeps. ([], [], gave_none _, begins _ part _ _ keeps), refl, refl)

pub returns-in-Whole-clause-line : goal.returns-in-Whole-clause-line
returns-in-Whole-clause-line g c = λ part keeps.
    let (given, piece, consumed, line) = c.loop-is_longer.invariant.1 part keeps in
    let (more, consumes, gives) = c.in-Whole.ensures.given (part ++ piece) line.keeps in
    (given ++ more, gave_both _ _ _ _ _ consumed consumes, whole _ _ _ given part piece _ gives.0 _ _ more line gives.1 gives.2)

pub returns-in-TooLong-clause-line : goal.returns-in-TooLong-clause-line
returns-in-TooLong-clause-line g c = λ part keeps.
    let (given, piece, consumed, line) = c.loop-is_longer.invariant.1 part keeps in
    let (more, consumes, gives) = c.in-TooLong.ensures.given (part ++ piece) line.keeps in
    (given ++ more, gave_both _ _ _ _ _ consumed consumes, too_long _ _ _ given part piece _ gives.0 _ more line gives.1 gives.2)

pub loop-is_longer-preserved : goal.loop-is_longer-preserved
loop-is_longer-preserved g c = (
  search rules,
  λ part keeps.
      let (given, piece, consumed, line) = c.loop-is_longer.invariant.1 part keeps in
      let (more, consumes, gives) = c.in-More.ensures.given (part ++ piece) line.keeps in
      let (one, none, kept, taken, within) = gives in (
        given ++ more,
        piece ++ (c.loop-is_longer.self.pending ++ more),
        gave_both _ _ _ _ _ consumed consumes,
        goes_on _ _ _ given part piece _ _ _ _ more line one none kept taken,
      ),
  c.in-More.ensures.same.0 ∙ c.loop-is_longer.invariant.2,
  c.in-More.ensures.same.1 ∙ c.loop-is_longer.invariant.3,
)

pub returns-in-End-clause-line : goal.returns-in-End-clause-line
returns-in-End-clause-line g c = λ part keeps.
    let (given, piece, consumed, line) = c.loop-is_longer.invariant.1 part keeps in
    let (more, consumes, gives) = c.in-End.ensures.given (part ++ piece) line.keeps in
    (given ++ more, gave_both _ _ _ _ _ consumed consumes, (ends _ _ given part piece _ _ more line gives.0, gives.1))

pub returns-in-Fault-clause-line : goal.returns-in-Fault-clause-line
returns-in-Fault-clause-line g c = λ part keeps.
    let (given, piece, consumed, line) = c.loop-is_longer.invariant.1 part keeps in
    let (more, consumes, gives) = c.in-Fault.ensures.given (part ++ piece) line.keeps in
    (given ++ more, gave_both _ _ _ _ _ consumed consumes, tt)

pub returns-in-Limit-clause-line : goal.returns-in-Limit-clause-line
returns-in-Limit-clause-line g c = λ part keeps.
    let (given, piece, consumed, line) = c.loop-is_longer.invariant.1 part keeps in
    let (more, consumes, gives) = c.in-Limit.ensures.given (part ++ piece) line.keeps in
    (given ++ more, gave_both _ _ _ _ _ consumed consumes, exceeds _ _ given part piece _ _ more line gives)

pub returns-in-NotYet-clause-line : goal.returns-in-NotYet-clause-line
returns-in-NotYet-clause-line g c = λ part keeps.
    let (given, piece, consumed, line) = c.loop-is_longer.invariant.1 part keeps in
    let (more, consumes, gives) = c.in-NotYet.ensures.given (part ++ piece) line.keeps in
    let (none, empty, kept, same, within) = gives in (
      given ++ more,
      gave_both _ _ _ _ _ consumed consumes,
      (piece, waits _ _ given part piece _ _ more _ line none empty, line.one, kept, omega (arith, line.taken, same), within),
    )
