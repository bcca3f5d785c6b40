-- What writing a table gives: its answer, and the output after it. Both depend on the limit of nesting, the table, its stated rows, the
-- text bytes and the output's length alone. Assumes nothing.
use Rattle.std.specs.Prelude.{ℕ, ◌-◌, ◌≡◌, Bool, true, false, List, ◌++◌, length, replicate, leb, Result, Ok, Err}
use Rattle.draft.specs.declared.Refusal.{Refusal}
use Rattle.draft.specs.declared.Refusal.TheVariants.{TooLong, NotWritable, FormTooLong, OutputTooShort, NoLimit}
use Rattle.draft.specs.Refusals.{number_of}
use Rattle.draft.specs.Limits.{allowed}
use Rattle.draft.specs.Writable.{writable_to}
use Rattle.draft.specs.Written.{written, rows_of}

-- how long the form is that is written, or why none is
abbrev pub Answer : Type 0
Answer = Result ℕ Refusal

-- where a test holds, and otherwise a refusal
abbrev pub given : Bool → Refusal → Answer → Answer
given true refusal o = o
given false refusal o = Err refusal

-- the answer for a form of n bytes, with so much room: 12, 13, or its length
abbrev pub answer_for : ℕ → ℕ → Answer
answer_for n room = given (leb n 65536) FormTooLong (given (leb n room) OutputTooShort (Ok n))

-- the answer for this written form
unfoldable pub answer_to : List ℕ → ℕ → Answer
answer_to form room = answer_for (length form) room

-- the written form of a table of so many rows, 4,096 at most
unfoldable pub form_of : List ℕ → ℕ → List ℕ → List ℕ
form_of T rows s = written s (rows_of 4096 T rows)

-- the answer to a call that states a limit of nesting: 23, 10, 11, then as the written form has it
unfoldable pub answer_of : ℕ → List ℕ → ℕ → List ℕ → ℕ → Answer
answer_of limit T rows s room =
    given (allowed limit) NoLimit
    (given (leb (length s) 65536) TooLong
    (given (writable_to limit T rows s) NotWritable
    (answer_to (form_of T rows s) room)))

-- the output after an answer: the message and zeros behind it; on a refusal all zeros
abbrev pub output_of : Answer → List ℕ → ℕ → List ℕ
output_of (Ok n) form room = form ++ replicate (room - n) 0
output_of (Err refusal) form room = replicate room 0

-- what a call of the writer did
pub record Did (limit : ℕ) (T : List ℕ) (rows : ℕ) (s out out' : List ℕ) (answer : Answer) : Type 0 where
  pub says : answer ≡ answer_of limit T rows s (length out)
  pub leaves : out' ≡ output_of answer (form_of T rows s) (length out)

-- the numbers that document 01 gives for an answer
pub record Report : Type 0 where
  pub number : ℕ
  pub length : ℕ
  pub place : ℕ

abbrev pub report_of : Answer → Report
report_of (Ok n) = record { number = 0; length = n; place = 0 }
report_of (Err refusal) = record { number = number_of refusal; length = 0; place = 0 }
