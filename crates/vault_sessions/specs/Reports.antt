-- What conversations came to that began with the first byte of their connections. This project's own.
use Rattle.std.specs.Prelude.{◌≡◌, ℕ, ◌+◌, ◌≤◌, List, [], length, None, Some, sum_by}
use Rattle.line_inlet.specs.Reading.{Reading}
use Rattle.group_commit.specs.View.{View}
use Rattle.vault_desk.specs.Answered.{Answered}
use Rattle.vault_desk.specs.Serving.{AreSeen, AreOfHistory, most_lines, HeardAll, SpeaksFor, session_of, WritesAll, QuitsBy, Counts, is_told, is_broken, lost_by, left_behind}
use Rattle.vault_desk.specs.Sights.{HasItsLeave, LeavesNoneOpen}
use Rattle.vault_desk.specs.declared.report.Out.{Out}
use Rattle.vault_desk.specs.declared.report.Ended.{Ended}
use Rattle.vault_desk.specs.declared.tally.Totals.{Totals}

-- what a connection came to: all bytes that were heard of it, all that were written to it, the answers to its lines, in order, and why it
-- ended
pub record Report (A : Type 0) : Type 0 where
  pub heard : List ℕ
  pub written : List ℕ
  pub outs : List (Out A)
  pub ended : Ended

-- a conversation over these bytes, with these answers and this end
abbrev pub reported : {A : Type 0} → List ℕ → List ℕ → Answered A → Ended → Report A
reported heard written answers ended = record { heard = heard; written = written; outs = answers.outs; ended = ended }

-- these are all bytes that came; of further ones nothing is known
abbrev pub came : List ℕ → Reading
came bytes = record { ahead = None; behind = Some bytes }

-- What is so of a connection whose place saw this of the vault. Each line that was heard has its answer, in order, and a receipt shows the
-- line's command. It is of the session that the connection spoke for, and its entry was acknowledged. What was written is the answers'
-- texts. The session that they leave open has its leave.
pub record IsReported {A : Type 0} (seen : List View) (report : Report A) : Type 0 where
  pub heard : HeardAll (came []) (came report.heard) report.outs report.ended
  pub few : length report.outs ≤ most_lines
  pub spoken : SpeaksFor 0 report.outs
  pub told : AreSeen seen report.outs
  pub written : WritesAll report.ended (Some []) (Some report.written) report.outs
  pub quit : QuitsBy report.ended report.outs
  pub gone : HasItsLeave seen (session_of 0 report.outs)

-- The same of a connection to a vault that came from one view to another: the entry of each receipt stands, as acknowledged, in the history
-- that led there, and so does the leave of the session, unless the vault broke.
pub record IsServed {A : Type 0} (old new : View) (report : Report A) : Type 0 where
  pub heard : HeardAll (came []) (came report.heard) report.outs report.ended
  pub few : length report.outs ≤ most_lines
  pub spoken : SpeaksFor 0 report.outs
  pub told : AreOfHistory old new report.outs
  pub written : WritesAll report.ended (Some []) (Some report.written) report.outs
  pub quit : QuitsBy report.ended report.outs
  pub gone : LeavesNoneOpen old new (session_of 0 report.outs)

-- how many receipts a connection got
abbrev pub receipts_of : {A : Type 0} → Report A → ℕ
receipts_of report = sum_by is_told report.outs

-- how many commands may have been staged for it without a receipt: those that a broken vault didn't answer, one whose reply was refused
-- memory, and one last leave
abbrev pub others_of : {A : Type 0} → Report A → ℕ
others_of report = sum_by is_broken report.outs + (lost_by report.ended + left_behind report.outs)

-- what was counted is what the reports say: each receipt once, as staged and as acknowledged, and at most the others as staged
abbrev pub AreCounted : {A : Type 0} → List (Report A) → Totals → Type 0
AreCounted reports counted = Counts (record { staged = 0; told = 0 }) (sum_by receipts_of reports) (sum_by others_of reports) counted

-- what several shares count
abbrev pub sums_of : List Totals → Totals
sums_of shares = record { staged = sum_by (λ share. share.staged) shares; told = sum_by (λ share. share.told) shares }
