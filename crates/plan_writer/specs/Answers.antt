-- What writing a table with a plan gives: its answer, and the output after it. Both depend on the limit of nesting, the table, its stated rows,
-- the text bytes, the plan and the output's length alone. Assumes nothing.
use Rattle.std.specs.Prelude.{ℕ, ◌-◌, ◌≡◌, Bool, true, false, cond, List, ◌++◌, length, replicate, leb, Result, Ok, Err}
use Rattle.draft.specs.declared.Refusal.TheVariants.{TooLong, NotWritable, FormTooLong, OutputTooShort, NoLimit}
use Rattle.draft.specs.Refusals.{number_of}
use Rattle.draft.specs.declared.Row.{Row}
use Rattle.draft.specs.Strings.{texts_of}
use Rattle.draft.specs.Limits.{allowed}
use Rattle.draft.specs.Writable.{writable_to}
use Rattle.draft.specs.Written.{written, rows_of}
use Rattle.plans.specs.Plans.{planned, taken}
use Rattle.plan_writer.specs.declared.PlanRefusal.{PlanRefusal}
use Rattle.plan_writer.specs.declared.PlanRefusal.TheVariants.{Refused, NotTaken}

-- how long the message is that is written, or why none is
abbrev pub Answer : Type 0
Answer = Result ℕ PlanRefusal

-- where a test holds, and otherwise a refusal
abbrev pub given : Bool → Answer → Answer → Answer
given true refusal o = o
given false refusal o = refusal

-- 'The shorter of the plan's message and 01's form is written, 01's if equal'
unfoldable pub shorter : List ℕ → List ℕ → List ℕ
shorter form other = cond (leb (length form) (length other)) form other

-- the message that rows are written as
unfoldable pub chosen : List ℕ → List Row → List ℕ → List ℕ
chosen s rows plan = shorter (written s rows) (planned s rows plan)

-- the message of a table of so many rows, 4,096 at most
unfoldable pub message_for : List ℕ → ℕ → List ℕ → List ℕ → List ℕ
message_for T rows s plan = chosen s (rows_of 4096 T rows) plan

-- the answer for a message of n bytes, with so much room: 12, 13, or its length
abbrev pub answer_for : ℕ → ℕ → Answer
answer_for n room = given (leb n 65536) (Err (Refused FormTooLong)) (given (leb n room) (Err (Refused OutputTooShort)) (Ok n))

-- with text bytes and a table that are fit: '24 for a plan that isn't taken, after 11 and before 12 and 13, which speak of the message written'
unfoldable pub answer_by : List ℕ → List Row → List ℕ → ℕ → Answer
answer_by s rows plan room = given (taken plan (texts_of s rows)) (Err NotTaken) (answer_for (length (chosen s rows plan)) room)

-- the answer to a call that states a limit of nesting: 23, 10, 11, 24, then as the message has it
unfoldable pub answer_of : ℕ → List ℕ → ℕ → List ℕ → List ℕ → ℕ → Answer
answer_of limit T rows s plan room =
    given (allowed limit) (Err (Refused NoLimit))
    (given (leb (length s) 65536) (Err (Refused TooLong))
    (given (writable_to limit T rows s) (Err (Refused NotWritable))
    (answer_by s (rows_of 4096 T rows) plan room)))

-- the output after an answer: the message and zeros behind it; on a refusal all zeros
abbrev pub output_of : Answer → List ℕ → ℕ → List ℕ
output_of (Ok n) form room = form ++ replicate (room - n) 0
output_of (Err (Refused refusal)) form room = replicate room 0
output_of (Err NotTaken) form room = replicate room 0

-- what a call did
pub record Did (limit : ℕ) (T : List ℕ) (rows : ℕ) (s plan out out' : List ℕ) (answer : Answer) : Type 0 where
  pub says : answer ≡ answer_of limit T rows s plan (length out)
  pub leaves : out' ≡ output_of answer (message_for T rows s plan) (length out)

-- the numbers that documents 01 and 02 give for an answer
pub record Report : Type 0 where
  pub number : ℕ
  pub length : ℕ
  pub place : ℕ

abbrev pub report_of : Answer → Report
report_of (Ok n) = record { number = 0; length = n; place = 0 }
report_of (Err (Refused refusal)) = record { number = number_of refusal; length = 0; place = 0 }
report_of (Err NotTaken) = record { number = 24; length = 0; place = 0 }
