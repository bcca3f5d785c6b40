-- What writing a station's share and looking up in it give: for the share's words W what the call without stations gives, or 22. Assumes nothing.
use Rattle.std.specs.Prelude.{◌≡◌, List, ℕ, pos, length, Result, Ok, Err}
use Rattle.shares.specs.declared.Station.{Station}
use Rattle.shares.specs.declared.NotSplit.{NotSplit}
use Rattle.shares.specs.Share.{no_share, on_share}
use Rattle.write_answer.specs.Answers.{Answer as WriterAnswer}
use Rattle.write_answer.specs.Answers as writer
use Rattle.write_answer.specs.Answers.{answer_of, output_of, form_of}
use Rattle.lookup_answer.specs.Answers.{Answer as FoundAnswer}
use Rattle.lookup_answer.specs.declared.Report as looked
use Rattle.lookup_answer.specs.Reports as lookup-reports
use Rattle.lookup_answer.specs.Reports.{plus_zero, reported}
use Rattle.lookup_answer.specs.Answers as lookups
use Rattle.placing.specs.declared.Position.{Position}
use Rattle.placing.specs.declared.Placed.{Placed}
use Rattle.placing.specs.Placing.{at, outcome_number, position}

-- what is answered: as for a whole table, or 22
abbrev pub WriteAnswer : Type 0
WriteAnswer = Result WriterAnswer NotSplit

abbrev pub LookupAnswer : Type 0
LookupAnswer = Result FoundAnswer NotSplit

abbrev pub PositionAnswer : Type 0
PositionAnswer = Result Placed NotSplit

-- written, with a limit of nesting, so many stated rows, the text bytes s and an output of so many bytes
unfoldable pub write_answer : ℕ → ℕ → List ℕ → ℕ → List ℕ → WriteAnswer
write_answer limit rows s room W = Ok (answer_of limit W rows s room)

unfoldable pub written_bytes : ℕ → ℕ → List ℕ → ℕ → List ℕ → List ℕ
written_bytes limit rows s room W = output_of (answer_of limit W rows s room) (form_of W rows s) room

pub record WroteFor (limit : ℕ) (T : List ℕ) (station : Station) (split rows : ℕ) (s out out' : List ℕ) (a : WriteAnswer) : Type 0 where
  pub says : a ≡ on_share station split T (write_answer limit rows s (length out)) (Err no_share)
  pub leaves : out' ≡ on_share station split T (written_bytes limit rows s (length out)) out

-- a member, and a position, in the Struct of row r of the share
unfoldable pub lookup_answer : ℕ → List ℕ → ℕ → List ℕ → List ℕ → LookupAnswer
lookup_answer rows s r key W = Ok (lookups.lookup W rows s r key)

unfoldable pub position_answer : ℕ → List ℕ → ℕ → List ℕ → PositionAnswer
position_answer rows s r W = Ok (position W rows s r)

-- the numbers that the papers give for an answer
abbrev pub write_report_of : WriteAnswer → writer.Report
write_report_of (Ok a) = writer.report_of a
write_report_of (Err e) = record { number = 22; length = 0; place = 0 }

abbrev pub lookup_report_of : LookupAnswer → looked.Report
lookup_report_of (Ok a) = lookup-reports.report_of a
lookup_report_of (Err e) = reported 22 0 (pos 0) plus_zero 0 0

abbrev pub position_number : PositionAnswer → ℕ
position_number (Ok p) = outcome_number p.outcome
position_number (Err e) = 22

abbrev pub position_values : PositionAnswer → Position
position_values (Ok p) = p.position
position_values (Err e) = at plus_zero plus_zero plus_zero
