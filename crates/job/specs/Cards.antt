-- What asking for a card of a job file gives: its answer, and the table after it. Both depend on the file, the card's number and the table's
-- length alone. 'The job file reader states 32' (02, E11). Assumes nothing.
use Rattle.std.specs.Prelude.{◌≡◌, List, ℕ, replicate, Err, Result, Ok}
use Rattle.draft.specs.Bytes.{part}
use Rattle.draft.specs.Refusals.{number_of}
use Rattle.read_answer.specs.declared.Answer.{Answer as ReaderAnswer}
use Rattle.read_answer.specs.declared.Answer.TheVariants as reader
use Rattle.read_answer.specs.Answers.{reading, answer_of, table_of}
use Rattle.job.specs.declared.Accepted.{Accepted}
use Rattle.job.specs.declared.JobFault.{JobFault}
use Rattle.job.specs.declared.JobFault.TheVariants.{Refused, Missing}
use Rattle.records.specs.Job.{Found, refusal_number}

-- what reading a card answers: the card's rows, the bytes used and where its body stands; or why it is refused and at which place
abbrev pub Answer : Type 0
Answer = Result Accepted JobFault

abbrev pub accepted_at : ℕ → ℕ → ℕ → Answer
accepted_at rows used body = Ok (record { rows = rows; used = used; body = body })

-- a card's own answer, with places and offsets counted from its body, and where that stands in the file
abbrev pub located : ℕ → ReaderAnswer → Answer
located start (reader.Accepted rows used) = accepted_at rows used start
located start (reader.Refused refusal place) = Err (Refused refusal place)

abbrev pub answer_for : List ℕ → ℕ → Found → Answer
answer_for s words (Ok body) = located body.start (answer_of (reading 32 (part s body.start body.length) words))
answer_for s words (Err none) = Err (Missing none.refusal none.place)

abbrev pub table_for : List ℕ → ℕ → Found → List ℕ
table_for s words (Ok body) = table_of words (reading 32 (part s body.start body.length) words)
table_for s words (Err none) = replicate words 0

-- what a call did that was to answer by what was found in the file s, with a table of so many words
pub record Reads (s : List ℕ) (words : ℕ) (f : Found) (T' : List ℕ) (answer : Answer) : Type 0 where
  pub says : answer ≡ answer_for s words f
  pub leaves : T' ≡ table_for s words f

-- the numbers that documents 01 and 02 give for an answer
pub record Report : Type 0 where
  pub number : ℕ
  pub rows : ℕ
  pub used : ℕ
  pub place : ℕ
  pub body : ℕ

abbrev pub report_of : Answer → Report
report_of (Ok card) = record { number = 0; rows = card.rows; used = card.used; place = 0; body = card.body }
report_of (Err (Refused refusal place)) = record { number = number_of refusal; rows = 0; used = 0; place = place; body = 0 }
report_of (Err (Missing refusal place)) = record { number = refusal_number refusal; rows = 0; used = 0; place = place; body = 0 }
