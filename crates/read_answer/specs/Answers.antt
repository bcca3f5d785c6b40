-- What reading a whole message gives: its answer, and the table after it. Both depend on the
-- message, the limit of nesting and the table's length alone.
-- Assumes nothing.
use Rattle.std.specs.Prelude.{◌≡◌, cond, List, ℕ, length, replicate}
use Rattle.draft.specs.declared.Refusal.TheVariants.{NoLimit}
use Rattle.draft.specs.Refusals.{number_of}
use Rattle.draft.specs.Limits.{allowed}
use Rattle.draft.specs.Table.{room_of, put_rows}
use Rattle.draft.specs.Read.{Reading, got, refused, message_within}
use Rattle.read_answer.specs.declared.Answer.{Answer}
use Rattle.read_answer.specs.declared.Answer.TheVariants.{Accepted, Refused}

-- document 01's limits, 65,536 bytes and 4,096 rows, and nesting to the limit that the call states: 23 'for a limit outside 1 to 32' (02, E11)
unfoldable pub reading : ℕ → List ℕ → ℕ → Reading
reading limit s words = cond (allowed limit) (message_within 65536 s (room_of 4096 words) limit) (refused NoLimit 0)

abbrev pub answer_of : Reading → Answer
answer_of (refused refusal place) = Refused refusal place
answer_of (got rows used book) = Accepted (length rows) used

-- the rows in a table of zeros; on a refusal all zeros
abbrev pub table_of : ℕ → Reading → List ℕ
table_of words (refused refusal place) = replicate words 0
table_of words (got rows used book) = put_rows (room_of 4096 words) (replicate words 0) 0 rows

-- what a call did that was to give this reading into a table of so many words
pub record Answers (o : Reading) (words : ℕ) (T' : List ℕ) (answer : Answer) : Type 0 where
  pub says : answer ≡ answer_of o
  pub leaves : T' ≡ table_of words o

-- the numbers that document 01 gives for an answer
pub record Report : Type 0 where
  pub number : ℕ
  pub rows : ℕ
  pub used : ℕ
  pub place : ℕ

abbrev pub report_of : Answer → Report
report_of (Accepted rows used) = record { number = 0; rows = rows; used = used; place = 0 }
report_of (Refused refusal place) = record { number = number_of refusal; rows = 0; used = 0; place = place }
