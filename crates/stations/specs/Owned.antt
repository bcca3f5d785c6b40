-- An answer for a station that is one of the call without stations with the same limit of nesting, made on other words: those of the share. Assumes
-- nothing.
use Rattle.std.specs.Prelude.{◌≡◌, List, ℕ, Ok}
use Rattle.read_answer.specs.declared.Answer.{Answer as ReaderAnswer}
use Rattle.read_answer.specs.Answers.{reading, Answers}
use Rattle.records.specs.Job.{body_of}
use Rattle.job.specs.Cards.{Answer as JobAnswer, Reads}
use Rattle.pieces.specs.declared.State.{State}
use Rattle.pieces.specs.Steps.{Went, Closed}
use Rattle.write_answer.specs.Answers.{Answer as WriterAnswer}
use Rattle.write_answer.specs.Answers.{Did}
use Rattle.plan_writer.specs.Answers.{Answer as PlannerAnswer}
use Rattle.plan_writer.specs.Answers as planner
use Rattle.station_reading.specs.Answers.{Answer, CardAnswer}
use Rattle.station_pieces.specs.Steps.{Answer as PieceAnswer}
use Rattle.station_plans.specs.Answers.{Answer as PlanAnswer}
use Rattle.station_tables.specs.Answers.{WriteAnswer}

-- `reader::read` of a message s into n words, which are W' after it
pub record OwnRead (limit : ℕ) (s : List ℕ) (n : ℕ) (W' : List ℕ) (a : Answer) : Type 0 where
  pub own : ReaderAnswer
  pub is : a ≡ Ok own
  pub did : Answers (reading limit s n) n W' own

-- `job::read_card` of a card of the file s
pub record OwnCard (s : List ℕ) (number n : ℕ) (W' : List ℕ) (a : CardAnswer) : Type 0 where
  pub own : JobAnswer
  pub is : a ≡ Ok own
  pub did : Reads s n (body_of s number) W' own

-- `pieces::next` with a piece p, a room R and R', and words W and W'
pub record OwnPiece (limit : ℕ) (state : State) (p R W R' W' : List ℕ) (a : PieceAnswer) : Type 0 where
  pub own : State
  pub is : a ≡ Ok own
  pub did : Went limit state p R W R' W' own

-- `pieces::end` with a room of so many bytes
pub record OwnEnd (limit : ℕ) (state : State) (bytes : ℕ) (W W' : List ℕ) (a : PieceAnswer) : Type 0 where
  pub own : State
  pub is : a ≡ Ok own
  pub did : Closed limit state bytes W W' own

-- `writer::write` of so many rows of the words W, whose texts lie in s
pub record OwnWrite (limit : ℕ) (W : List ℕ) (rows : ℕ) (s out out' : List ℕ) (a : WriteAnswer) : Type 0 where
  pub own : WriterAnswer
  pub is : a ≡ Ok own
  pub did : Did limit W rows s out out' own

-- `plan_writer::write` of so many rows of the words W, whose texts lie in s, by a plan p
pub record OwnPlanned (limit : ℕ) (W : List ℕ) (rows : ℕ) (s p out out' : List ℕ) (a : PlanAnswer) : Type 0 where
  pub own : PlannerAnswer
  pub is : a ≡ Ok own
  pub did : planner.Did limit W rows s p out out' own
