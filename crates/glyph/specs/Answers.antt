-- What reading a whole message gives: its answer, and the table after it. Both depend on the edition, the limit, the message and the table's
-- length alone. Assumes nothing.
use Rattle.std.specs.Prelude.{◌≡◌, Result, Ok, Err, List, ℕ, length, replicate}
use Rattle.draft.specs.declared.Refused.{Refused}
use Rattle.draft.specs.Table.{room_of, put_rows}
use Rattle.glyph.specs.declared.Edition.{Edition}
use Rattle.glyph.specs.declared.Accepted.{Accepted}
use Rattle.glyph.specs.declared.Refusal.{Refusal}
use Rattle.glyph.specs.Read.{Reading, got, refused, message}

-- with room for the table's rows, 4,096 at most
unfoldable pub reading : Edition → ℕ → List ℕ → ℕ → Reading
reading e limit s words = message e limit s (room_of 4096 words)

-- how many rows and bytes were read, or why and where the message is refused
abbrev pub Answer : Type 0
Answer = Result Accepted (Refused Refusal)

abbrev pub accepted_as : ℕ → ℕ → Answer
accepted_as rows used = Ok (record { rows = rows; used = used })

abbrev pub refused_as : Refusal → ℕ → Answer
refused_as refusal place = Err (record { refusal = refusal; place = place })

abbrev pub answer_of : Reading → Answer
answer_of (refused refusal place) = refused_as refusal place
answer_of (got rows used) = accepted_as (length rows) used

-- the rows in a table of zeros; on a refusal all zeros
abbrev pub table_of : ℕ → Reading → List ℕ
table_of words (refused refusal place) = replicate words 0
table_of words (got rows used) = put_rows (room_of 4096 words) (replicate words 0) 0 rows

-- what a call did that was to give this reading into a table of so many words
pub record Answers (o : Reading) (words : ℕ) (T' : List ℕ) (answer : Answer) : Type 0 where
  pub says : answer ≡ answer_of o
  pub leaves : T' ≡ table_of words o
