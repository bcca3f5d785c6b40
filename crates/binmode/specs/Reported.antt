-- What an exported function reports: document 01's numbers, and the buffer after the call. Assumes nothing.
use Rattle.std.specs.Prelude.{◌≡◌, List, ℕ, length}
use Rattle.draft.specs.Read.{Reading}
use Rattle.read_answer.specs.Answers.{answer_of, table_of, report_of}
use Rattle.write_answer.specs.Answers as writer
use Rattle.read_reports.specs.Numbers.{report}
use Rattle.write_reports.specs.Numbers as writing

-- of a reading into a table of so many words, which is T' after the call
pub record Reported (o : Reading) (words : ℕ) (T' : List ℕ) (number rows used place : ℕ) : Type 0 where
  pub numbers : report number rows used place ≡ report_of (answer_of o)
  pub table : T' ≡ table_of words o

-- of writing a table, with a limit of nesting and so many stated rows, whose texts lie in s, into an output that is out before the call and out' after it
pub record WriteReported (limit : ℕ) (T : List ℕ) (rows : ℕ) (s out out' : List ℕ) (number size : ℕ) : Type 0 where
  pub numbers : writing.report number size ≡ writer.report_of (writer.answer_of limit T rows s (length out))
  pub output : out' ≡ writer.output_of (writer.answer_of limit T rows s (length out)) (writer.form_of T rows s) (length out)
