-- What connections came to, one after another, and at several places.
use Rattle.std.proofs.Common.{◌≡◌, ℕ, ◌+◌, ◌≤◌, List, [], ◌∷◌, ◌++◌, length, Option, Some, sym, subst, arith}
use Rattle.std.specs.Prelude.{All}
use Rattle.std.proofs.lemmas.List.Elements.{All-weaker}
use Rattle.std.proofs.lemmas.List.Sums.{sum_by-append, sum_by_push}
use mathlib.Core.List.{IsPrefix}
use Rattle.line_inlet.specs.Reading.{Reading}
use Rattle.group_commit.specs.View.{View}
use Rattle.vault_desk.specs.Serving.{AreSeen, CountsAll, HeardAll, SpeaksFor, WritesAll, QuitsBy, session_of, most_lines}
use Rattle.vault_desk.specs.Sights.{WentThrough, HasItsLeave}
use Rattle.vault_desk.specs.declared.report.Out.{Out}
use Rattle.vault_desk.specs.declared.report.Ended.{Ended}
use Rattle.vault_desk.specs.declared.tally.Totals.{Totals}
use Rattle.vault_desk.specs.Acts.{GoesOn}
use Rattle.vault_desk.proofs.Acts.{begins}
use Rattle.vault_desk.proofs.Seeing.{all_in, all_of, went_prefix, went_on}
use Rattle.vault_desk.proofs.Leaving.{left_in, leaves_of}
use Rattle.vault_sessions.specs.Reports.{Report, IsReported, IsServed, receipts_of, others_of, AreCounted, sums_of, came}

-- what was seen is seen in all that was seen since
reported_in : {A : Type 0} (xs ys : List View) (report : Report A) → IsPrefix xs ys → IsReported xs report → IsReported ys report
reported_in xs ys report p h = record {
  heard = h.heard;
  few = h.few;
  spoken = h.spoken;
  told = all_in xs ys report.outs p h.told;
  written = h.written;
  quit = h.quit;
  gone = left_in xs ys (session_of 0 report.outs) p h.gone;
}

pub all_reported : {A : Type 0} (xs ys : List View) (reports : List (Report A)) → IsPrefix xs ys → All (IsReported xs) reports → All (IsReported ys) reports
all_reported xs ys reports p h = All-weaker (IsReported xs) (IsReported ys) (λ report one. reported_in xs ys report p one) reports h

-- and is so of each vault that went through it
served_so : {A : Type 0} (old new : View) (seen : List View) (report : Report A) → WentThrough old new seen → IsReported seen report → IsServed old new report
served_so old new seen report went h = record {
  heard = h.heard;
  few = h.few;
  spoken = h.spoken;
  told = all_of old new seen report.outs went h.told;
  written = h.written;
  quit = h.quit;
  gone = leaves_of old new seen (session_of 0 report.outs) went h.gone;
}

pub all_served : {A : Type 0} (old new : View) (seen all : List View) (reports : List (Report A)) → IsPrefix seen all → WentThrough old new all
    → All (IsReported seen) reports → All (IsServed old new) reports
all_served old new seen all reports p went h =
    let through = went_prefix old new seen all p went in
    All-weaker (IsReported seen) (IsServed old new) (λ report one. served_so old new seen report through one) reports h

-- no connection counted anything
pub counted_none : {A : Type 0} (reports : List (Report A)) (counted : Totals) → reports ≡ [] → counted.staged ≡ 0 → counted.told ≡ 0 → AreCounted reports counted
counted_none {A} reports counted none staged told =
    let P : List (Report A) → Type 0 = λ r. AreCounted r counted in
    let empty : P [] = record { told = omega (arith, told); least = omega (arith, staged); most = omega (arith, staged) } in
    subst P (sym none) empty

-- one more counted what it did
pub counted_more : {A : Type 0} (reports : List (Report A)) (report : Report A) (old new : Totals) → AreCounted reports old
    → CountsAll old report.outs report.ended new → AreCounted (reports ++ report ∷ []) new
counted_more reports report old new h one =
    let told = sum_by_push receipts_of reports report in
    let others = sum_by_push others_of reports report in
    record {
      told = omega (arith, told, h.told, one.told);
      least = omega (arith, told, h.least, one.least);
      most = omega (arith, told, others, h.most, one.most);
    }

-- and so did those of one more place
pub counted_beside : {A : Type 0} (reports more : List (Report A)) (shares : List Totals) (share : Totals) → AreCounted reports (sums_of shares)
    → AreCounted more share → AreCounted (reports ++ more) (sums_of (shares ++ share ∷ []))
counted_beside reports more shares share h one =
    let told = sum_by-append receipts_of reports more in
    let others = sum_by-append others_of reports more in
    let staged = sum_by_push (λ (s : Totals). s.staged) shares share in
    let answered = sum_by_push (λ (s : Totals). s.told) shares share in
    record {
      told = omega (arith, told, answered, h.told, one.told);
      least = omega (arith, told, staged, h.least, one.least);
      most = omega (arith, told, others, staged, h.most, one.most);
    }

-- a conversation is so if it is over, and began with the first byte of its connection
pub reports_so : {A : Type 0} (seen : List View) (r0 r : Reading) (w0 w : Option (List ℕ)) (heard written : List ℕ) (outs : List (Out A)) (ended : Ended)
    → r0 ≡ came [] → r ≡ came heard → w0 ≡ Some [] → w ≡ Some written → HeardAll r0 r outs ended → length outs ≤ most_lines → SpeaksFor 0 outs
    → AreSeen seen outs → WritesAll ended w0 w outs → QuitsBy ended outs → HasItsLeave seen (session_of 0 outs)
    → IsReported seen (record { heard = heard; written = written; outs = outs; ended = ended })
reports_so seen r0 r w0 w heard written outs ended first last begun done all few spoken told wrote quit gone = record {
  heard = subst (λ (x : Reading). HeardAll (came []) x outs ended) last (subst (λ (x : Reading). HeardAll x r outs ended) first all);
  few = few;
  spoken = spoken;
  told = told;
  written = subst (λ (x : Option (List ℕ)). WritesAll ended (Some []) x outs) done (subst (λ (x : Option (List ℕ)). WritesAll ended x w outs) begun wrote);
  quit = quit;
  gone = gone;
}

-- what is counted is so of equal reports and numbers
pub counted_same : {A : Type 0} (reports same : List (Report A)) (counted totals : Totals) → reports ≡ same → AreCounted same counted
    → totals.staged ≡ counted.staged → totals.told ≡ counted.told → AreCounted reports totals
counted_same {A} reports same counted totals is h staged told =
    let P : List (Report A) → Type 0 = λ r. AreCounted r totals in
    let here : P same = record { told = omega (arith, told, h.told); least = omega (arith, staged, h.least); most = omega (arith, staged, h.most) } in
    subst P (sym is) here

-- a vault that went through what was seen did so, too, once it went on
pub went_further : (old now new : View) (seen : List View) → WentThrough old now seen → ((first : View) → GoesOn first now → GoesOn first new)
    → WentThrough old new seen
went_further old now new seen went on = went_on old now new seen went (on now (begins now))
