-- What is reported of a call for a station. Assumes nothing.
use Rattle.std.specs.Prelude.{◌≡◌, List, ℕ, ◌-◌, Result, Ok, Err}
use Rattle.std.specs.declared.ops.Range.{Range}
use Rattle.shares.specs.declared.NotSplit.{NotSplit}
use Rattle.placing.specs.declared.Position.{Position}
use Rattle.station_pieces.specs.Steps.{Answer as PieceAnswer}
use Rattle.station_tables.specs.Answers.{PositionAnswer, position_number, position_values}
use Rattle.piece_reports.specs.Words.{answer_for, words_of}

-- of where a share lies: 0, with its first word and its length; or 22 and zeros
pub record Lying : Type 0 where
  pub number : ℕ
  pub first : ℕ
  pub length : ℕ

abbrev pub lying : ℕ → ℕ → ℕ → Lying
lying number first size = record { number = number; first = first; length = size }

abbrev pub lying_of : Result (Range ℕ) NotSplit → Lying
lying_of (Ok part) = lying 0 part.start (part.end - part.start)
lying_of (Err why) = lying 22 0 0

-- of a message in pieces: after 22 the words of the state are as they were
abbrev pub words_after : List ℕ → PieceAnswer → List ℕ
words_after w (Ok state) = words_of state
words_after w (Err why) = w

abbrev pub number_after : PieceAnswer → ℕ
number_after (Ok state) = answer_for state
number_after (Err why) = 22

pub record PieceKept (answer : PieceAnswer) (w w' : List ℕ) (n : ℕ) : Type 0 where
  pub words : w' ≡ words_after w answer
  pub says : n ≡ number_after answer

-- of a position
pub record StationPlaced (a : PositionAnswer) (n : ℕ) (values : Position) : Type 0 where
  pub says : n ≡ position_number a
  pub gives : values ≡ position_values a
