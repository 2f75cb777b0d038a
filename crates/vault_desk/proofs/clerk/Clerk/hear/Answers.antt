use Rattle.std.proofs.Common.{◌≡◌, ◌≢◌, [], ◌∷◌, ◌++◌, length, rules, inl, ap, ◌∙◌}
use Rattle.std.proofs.lemmas.List.Elements.{All-append, All-nil}
use Rattle.vault_desk.specs.Serving.{most_lines}
use Rattle.vault_desk.specs.declared.report.Out.TheVariants.{Refused}
use Rattle.vault_desk.specs.declared.report.Ended.TheVariants.{EndOfInput, Read, Limit, NoMemory}
use Rattle.vault_desk.proofs.Told.{counts_more}
use Rattle.vault_desk.proofs.Seeing.{all_in, all_more, answered_knows}
use Rattle.vault_desk.proofs.Talks.{part_rest, part_waits, part_end, ends_so, readers, wants, answers, counts_refused}
use Rattle.vault_desk.proofs.clerk.Clerk.hear.Goals as goal

pub returns-in-Byte-clause-stands : goal.returns-in-Byte-clause-stands
returns-in-Byte-clause-stands g c = λ r0 w0 w1 s0 h.
    let (more, consumes, gives) = c.next_byte.ensures.given in
    let full : length c.args.talk.now.answers.outs ≡ most_lines = search rules in
    (ends_so Limit r0 _ _ w0 w1 s0 _ _ _ _ _ _ _ _ _ (part_rest r0 _ _ _ _ _ _ more Limit h.0.heard consumes (λ part given one size. inl full)) (readers Limit tt) h.0, record { told = h.1.told; asked = tt })

pub returns-in-End-clause-stands : goal.returns-in-End-clause-stands
returns-in-End-clause-stands g c = λ r0 w0 w1 s0 h.
    let (more, consumes, gives) = c.in-End.ensures.given in
    (ends_so EndOfInput r0 _ _ w0 w1 s0 _ _ _ _ _ _ _ _ _ (part_rest r0 _ _ _ _ _ _ more EndOfInput h.0.heard consumes (λ part given one size. (gives.1, All-append (λ b. b ≢ 10) part _ one (rw gives.0 (All-nil (λ b. b ≢ 10)))))) (readers EndOfInput tt) h.0, record { told = h.1.told; asked = tt })

pub returns-in-Fault-clause-stands : goal.returns-in-Fault-clause-stands
returns-in-Fault-clause-stands g c = λ r0 w0 w1 s0 h.
    let (more, consumes, gives) = c.in-Fault.ensures.given in
    (ends_so Read r0 _ _ w0 w1 s0 _ _ _ _ _ _ _ _ _ (part_rest r0 _ _ _ _ _ _ more Read h.0.heard consumes (λ part given one size. tt)) (readers Read tt) h.0, record { told = h.1.told; asked = tt })

pub returns-in-NotYet-clause-stands : goal.returns-in-NotYet-clause-stands
returns-in-NotYet-clause-stands g c = λ r0 w0 w1 s0 h.
    let (more, consumes, gives) = c.in-NotYet.ensures.given in (
      record {
        heard = part_waits r0 _ _ _ c.next_byte.new.self more _ _ _ h.0.heard consumes gives.0 gives.1;
        few = h.0.few;
        spoken = h.0.spoken;
        session_is = h.0.session_is;
        asked = tt;
        written = h.0.written;
        counted = h.0.counted;
      },
      record { told = h.1.told; asked = tt },
    )

pub returns-then-is_err-clause-stands : goal.returns-then-is_err-clause-stands
returns-then-is_err-clause-stands g c = λ r0 w0 w1 s0 h.
    rw c.reserve.ensures.same.0 (ends_so NoMemory r0 _ _ w0 w1 s0 _ _ _ _ _ _ _ _ _ (part_end r0 _ _ _ _ _ NoMemory h.0.heard (λ given left. tt)) wants h.0, record { told = h.1.told; asked = tt })

pub returns-in-Asked-clause-stands : goal.returns-in-Asked-clause-stands
returns-in-Asked-clause-stands g c = λ r0 w0 w1 s0 h.
    let outs : c.next.new.talk.answers.outs ≡ c.args.talk.now.answers.outs = ap (λ o. o.outs) c.next.ensures.same.0 ∙ c.reserve.ensures.same.0 in
    let stands = h.0 in
    let heard = c.in-Asked.ensures.heard r0 c.args.talk.now.answers.outs stands.heard in
    let staged = c.in-Asked.ensures.staged in
    rw (outs, c.next.ensures.same.1) (
      record {
        heard = heard;
        few = search rules;
        spoken = stands.spoken;
        session_is = stands.session_is;
        asked = staged.0;
        written = stands.written;
        counted = (c.args.talk.now.share, stands.counted, staged.1);
      },
      record { told = all_in _ _ _ c.in-Asked.ensures.seen h.1.told; asked = c.in-Asked.ensures.shown },
    )

pub returns-in-Kept-clause-stands : goal.returns-in-Kept-clause-stands
returns-in-Kept-clause-stands g c = λ r0 w0 w1 s0 h.
    let outs : c.next.new.talk.answers.outs ≡ c.args.talk.now.answers.outs = ap (λ o. o.outs) c.next.ensures.same.0 ∙ c.reserve.ensures.same.0 in
    let stands = h.0 in
    let heard = c.in-Kept.ensures.heard r0 c.args.talk.now.answers.outs stands.heard in
    rw (outs, c.next.ensures.same.1, c.in-Kept.ensures.staged) (
      record {
        heard = heard;
        few = search rules;
        spoken = stands.spoken;
        session_is = stands.session_is;
        asked = tt;
        written = stands.written;
        counted = stands.counted;
      },
      record { told = all_in _ _ _ c.in-Kept.ensures.seen h.1.told; asked = tt },
    )

pub returns-in-Refused-clause-stands : goal.returns-in-Refused-clause-stands
returns-in-Refused-clause-stands g c = λ r0 w0 w1 s0 h.
    let all = c.args.talk.now.answers.outs in
    let out = Refused c.in-Refused.cause in
    let outs : c.next.new.talk.answers.outs ≡ all = ap (λ o. o.outs) c.next.ensures.same.0 ∙ c.reserve.ensures.same.0 in
    let more : c.answer.new.talk.answers.outs ≡ all ++ out ∷ [] = c.answer.ensures.kept.0 ∙ ap (λ l. l ++ out ∷ []) outs in
    let stands = h.0 in
    let (heard, between) = c.in-Refused.ensures.heard r0 all stands.heard in
    let staged = c.in-Refused.ensures.staged in
    let session = c.answer.ensures.kept.1 ∙ (c.next.ensures.same.1 ∙ stands.session_is) in
    let counted = counts_more s0 _ _ all out stands.counted (counts_refused g.row.A.Denot c.in-Refused.cause c.args.talk.now.share) in
    let known = answered_knows out c.answer.result _ _ c.answer.ensures.told (all_more _ all out (all_in _ _ all c.in-Refused.ensures.seen h.1.told) tt) in
    rw (more, c.answer.ensures.same.0, c.answer.ensures.same.1, c.answer.ensures.same.2, c.answer.ensures.same.3, c.answer.ensures.same.5, staged) (answers out c.answer.result r0 _ w0 w1 s0 _ _ _ all _ _ c.answer.ensures.told heard between (search rules) stands.spoken tt session stands.written.0 stands.written.1 counted, known)

pub returns-in-Ended-clause-stands : goal.returns-in-Ended-clause-stands
returns-in-Ended-clause-stands g c = λ r0 w0 w1 s0 h.
    let outs : c.next.new.talk.answers.outs ≡ c.args.talk.now.answers.outs = ap (λ o. o.outs) c.next.ensures.same.0 ∙ c.reserve.ensures.same.0 in
    let (heard, reader) = c.in-Ended.ensures.heard r0 c.args.talk.now.answers.outs h.0.heard in
    rw (outs, c.next.ensures.same.1, c.in-Ended.ensures.staged) (ends_so c.in-Ended.ended r0 _ _ w0 w1 s0 _ _ _ _ _ _ _ _ _ heard (readers c.in-Ended.ended reader) h.0, record { told = all_in _ _ _ c.in-Ended.ensures.seen h.1.told; asked = tt })

pub returns-in-NotYet-next-clause-stands : goal.returns-in-NotYet-next-clause-stands
returns-in-NotYet-next-clause-stands g c = λ r0 w0 w1 s0 h.
    let outs : c.next.new.talk.answers.outs ≡ c.args.talk.now.answers.outs = ap (λ o. o.outs) c.next.ensures.same.0 ∙ c.reserve.ensures.same.0 in
    let stands = h.0 in
    let heard = c.in-NotYet-next.ensures.heard r0 c.args.talk.now.answers.outs stands.heard in
    rw (outs, c.next.ensures.same.1, c.in-NotYet-next.ensures.staged) (
      record {
        heard = heard;
        few = stands.few;
        spoken = stands.spoken;
        session_is = stands.session_is;
        asked = tt;
        written = stands.written;
        counted = stands.counted;
      },
      record { told = all_in _ _ _ c.in-NotYet-next.ensures.seen h.1.told; asked = tt },
    )
