-- What the exported functions on plans report: the papers' numbers, and the output after the call. Assumes nothing.
use Rattle.std.specs.Prelude.{◌≡◌, Bool, true, false, List, ℕ, length}
use Rattle.plan_writer.specs.Answers.{message_for, answer_of, output_of, report_of}
use Rattle.write_reports.specs.Numbers.{plan_report}

-- of writing a table, with a limit of nesting and so many stated rows, whose texts lie in s, by a plan, into an output that is out before the call and out' after it
pub record WritePlannedReported (limit : ℕ) (T : List ℕ) (rows : ℕ) (s plan out out' : List ℕ) (number size : ℕ) : Type 0 where
  pub numbers : plan_report number size ≡ report_of (answer_of limit T rows s plan (length out))
  pub output : out' ≡ output_of (answer_of limit T rows s plan (length out)) (message_for T rows s plan) (length out)

-- 1 for yes, and 0, which is no statement
abbrev pub answer_number : Bool → ℕ
answer_number true = 1
answer_number false = 0
