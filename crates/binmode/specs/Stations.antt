-- What the exported functions report that take a station, by its number, and a table that is split at a row. Assumes nothing.
use Rattle.std.specs.Prelude.{◌≡◌, List, ℕ, length, Err}
use Rattle.shares.specs.Share.{no_share, station_of, split_for, on_share, table_on}
use Rattle.read_answer.specs.Answers as reader
use Rattle.job.specs.Cards as job
use Rattle.write_answer.specs.Answers as writer
use Rattle.station_reading.specs.Answers.{read_answer, read_words, report_of, card_answer, card_words, card_report_of}
use Rattle.station_pieces.specs.Steps.{Answer as PieceAnswer, NextFor, EndFor}
use Rattle.station_tables.specs.Answers.{write_answer, written_bytes, write_report_of}
use Rattle.plan_writer.specs.Answers as planner
use Rattle.station_plans.specs.Answers as planned
use Rattle.piece_reports.specs.Words.{state_of}
use Rattle.station_reports.specs.Numbers.{PieceKept}

-- of a message, and of a card of a job file: the papers' numbers, and the table
pub record StationRead (limit : ℕ) (s : List ℕ) (number split : ℕ) (T T' : List ℕ) (r : reader.Report) : Type 0 where
  pub numbers : r ≡ report_of (on_share (station_of number) (split_for number split) T (read_answer limit s) (Err no_share))
  pub table : T' ≡ table_on (station_of number) (split_for number split) T (read_words limit s)

pub record StationCard (s : List ℕ) (n number split : ℕ) (T T' : List ℕ) (r : job.Report) : Type 0 where
  pub numbers : r ≡ card_report_of (on_share (station_of number) (split_for number split) T (card_answer s n) (Err no_share))
  pub table : T' ≡ table_on (station_of number) (split_for number split) T (card_words s n)

-- of a message in pieces
pub record StationPiece (limit : ℕ) (w p : List ℕ) (number split : ℕ) (R T w' R' T' : List ℕ) (n : ℕ) : Type 0 where
  pub answer : PieceAnswer
  pub went : NextFor limit (state_of w) p (station_of number) (split_for number split) R T R' T' answer
  pub kept : PieceKept answer w w' n

pub record StationEnd (limit : ℕ) (w : List ℕ) (bytes number split : ℕ) (T w' T' : List ℕ) (n : ℕ) : Type 0 where
  pub answer : PieceAnswer
  pub closed : EndFor limit (state_of w) bytes (station_of number) (split_for number split) T T' answer
  pub kept : PieceKept answer w w' n

-- of writing
pub record StationWrote (limit : ℕ) (T : List ℕ) (number split rows : ℕ) (s out out' : List ℕ) (r : writer.Report) : Type 0 where
  pub numbers : r ≡ write_report_of (on_share (station_of number) (split_for number split) T (write_answer limit rows s (length out)) (Err no_share))
  pub output : out' ≡ on_share (station_of number) (split_for number split) T (written_bytes limit rows s (length out)) out

-- of writing by a plan
pub record StationPlanned (limit : ℕ) (T : List ℕ) (number split rows : ℕ) (s p out out' : List ℕ) (r : planner.Report) : Type 0 where
  pub numbers : r ≡ planned.report_of (on_share (station_of number) (split_for number split) T (planned.write_answer limit rows s p (length out)) (Err no_share))
  pub output : out' ≡ on_share (station_of number) (split_for number split) T (planned.written_bytes limit rows s p (length out)) out
