-- What answers each return. Assumes nothing.
use mathlib.Core.Path.{◌≡◌, ◌∙◌}
use mathlib.Core.List.{List}
use Prim.Native.Nat.{ℕ, ◌-◌}
use lib.IntN.{pos}
use Rattle.std.specs.Prelude.{Result, Ok, Err}
use Rattle.std.specs.declared.ops.Range.{Range}
use lib.Ieee.{binary64, of_bits, of_fields, odd}
use Rattle.shares.specs.declared.Station.{Station}
use Rattle.shares.specs.declared.NotSplit.{NotSplit}
use Rattle.shares.specs.Share.{share_for, station_of, split_for}
use Rattle.shares.proofs.Lent.{part_ordered}
use Rattle.read_answer.specs.declared.Answer as R
use Rattle.read_answer.specs.Answers as readers
use Rattle.job.specs.Cards as jobs
use Rattle.write_answer.specs.Answers as writers
use Rattle.lookup_answer.specs.Answers as L
use Rattle.lookup_answer.specs.declared.Report.{Report}
use Rattle.lookup_answer.specs.Reports.{reported}
use Rattle.lookup_answer.specs.Reports as lookups
use Rattle.placing.specs.declared.Placed.{Placed}
use Rattle.placing.specs.declared.Position.{Position}
use Rattle.placing.specs.Placing.{at}
use Rattle.pieces.specs.declared.State.{State}
use Rattle.station_reading.specs.Answers.{Answer, CardAnswer, report_of, card_report_of}
use Rattle.plan_writer.specs.Answers as planners
use Rattle.station_pieces.specs.Steps.{Answer as PieceAnswer}
use Rattle.station_plans.specs.Answers as plans
use Rattle.station_tables.specs.Answers.{WriteAnswer, LookupAnswer, PositionAnswer, write_report_of, lookup_report_of}
use Rattle.read_reports.specs.Numbers.{report, card_report}
use Rattle.write_reports.specs.Numbers as writing
use Rattle.lookup_reports.specs.Numbers.{PositionReported}
use Rattle.piece_reports.specs.Words.{Kept}
use Rattle.station_reports.specs.Numbers.{lying, lying_of, PieceKept, StationPlaced}

-- ---- where a share lies

module _
    (words number split : ℕ) {row : ℕ} {station : Station} (i : row ≡ split_for number split) (k : station ≡ station_of number) {f : Result (Range ℕ) NotSplit}
    (h : f ≡ share_for words row station) where
  pub lies_there :
      {part : Range ℕ} → f ≡ Ok part → lying 0 part.start (part.end - part.start) ≡ lying_of (share_for words (split_for number split) (station_of number))
  lies_there e = let g = rw (i, k) at h in rw (← g, e)

  pub lies_nowhere : {why : NotSplit} {n : ℕ} → f ≡ Err why → n ≡ 22 → lying n 0 0 ≡ lying_of (share_for words (split_for number split) (station_of number))
  lies_nowhere e f = let g = rw (i, k) at h in rw (← g, e, f)

pub ruleset lying_there = (part_ordered, lies_there, lies_nowhere)

-- ---- an answer

module _ {a : Answer} where
  pub tells_read : {b : R.Answer} {r : readers.Report} → a ≡ Ok b → r ≡ readers.report_of b → r ≡ report_of a
  tells_read e f = rw (e, f)

  pub tells_no_read : {why : NotSplit} {n : ℕ} → a ≡ Err why → n ≡ 22 → report n 0 0 0 ≡ report_of a
  tells_no_read e f = rw (e, f)

module _ {a : CardAnswer} where
  pub tells_card : {b : jobs.Answer} {r : jobs.Report} → a ≡ Ok b → r ≡ jobs.report_of b → r ≡ card_report_of a
  tells_card e f = rw (e, f)

  pub tells_no_card : {why : NotSplit} {n : ℕ} → a ≡ Err why → n ≡ 22 → card_report n 0 0 0 0 ≡ card_report_of a
  tells_no_card e f = rw (e, f)

module _ {a : PieceAnswer} where
  pub tells_piece : {after : State} (w : List ℕ) {w' : List ℕ} {n : ℕ} → a ≡ Ok after → Kept after w' n → PieceKept a w w' n
  tells_piece w e f = record { words = f.words ∙ rw e; says = f.answer ∙ rw e }

  pub tells_no_piece : {w : List ℕ} {why : NotSplit} {n : ℕ} → a ≡ Err why → n ≡ 22 → PieceKept a w w n
  tells_no_piece e f = record { words = rw e; says = f ∙ rw e }

module _ {a : plans.Answer} where
  pub tells_planned : {b : planners.Answer} {r : planners.Report} → a ≡ Ok b → r ≡ planners.report_of b → r ≡ plans.report_of a
  tells_planned e f = rw (e, f)

  pub tells_unplanned : {why : NotSplit} {n : ℕ} → a ≡ Err why → n ≡ 22 → writing.plan_report n 0 ≡ plans.report_of a
  tells_unplanned e f = rw (e, f)

module _ {a : WriteAnswer} where
  pub tells_written : {b : writers.Answer} {r : writers.Report} → a ≡ Ok b → r ≡ writers.report_of b → r ≡ write_report_of a
  tells_written e f = rw (e, f)

  pub tells_unwritten : {why : NotSplit} {n : ℕ} → a ≡ Err why → n ≡ 22 → writing.report n 0 ≡ write_report_of a
  tells_unwritten e f = rw (e, f)

module _ {a : LookupAnswer} where
  pub tells_member : {b : L.Answer} {r x : Report} → a ≡ Ok b → r ≡ lookups.report_of b → x ≡ r → x ≡ lookup_report_of a
  tells_member e f g = rw (g, f, e)

  pub tells_no_member : {why : NotSplit} {n : ℕ} → a ≡ Err why → n ≡ 22 → reported n 0 (pos 0) (of_bits binary64 0) 0 0 ≡ lookup_report_of a
  unfolding of_bits of_fields odd
  tells_no_member e f = rw (e, f)

module _ {a : PositionAnswer} where
  pub tells_position : {p : Placed} {n : ℕ} {v : Position} → a ≡ Ok p → PositionReported p n v → StationPlaced a n v
  tells_position e f = record { says = f.says ∙ rw e; gives = f.gives ∙ rw e }

  pub tells_no_position : {why : NotSplit} {n : ℕ} → a ≡ Err why → n ≡ 22 → StationPlaced a n (at (of_bits binary64 0) (of_bits binary64 0) (of_bits binary64 0))
  unfolding of_bits of_fields odd
  tells_no_position e f = record { says = f ∙ rw e; gives = rw e }

pub ruleset telling = (tells_read, tells_no_read, tells_card, tells_no_card, tells_piece, tells_no_piece, tells_written, tells_unwritten, tells_planned, tells_unplanned, tells_member, tells_no_member, tells_position, tells_no_position)
