-- What the exported function that reads a card reports: document 02's numbers, and the table after the call. Assumes nothing.
use Rattle.records.specs.Job.{Found}
use Rattle.std.specs.Prelude.{◌≡◌, List, ℕ}
use Rattle.job.specs.Cards.{answer_for, table_for, report_of}
use Rattle.read_reports.specs.Numbers.{card_report}

-- of reading the card that was found in the file s into a table of so many words, which is T' after the call
pub record CardReported (s : List ℕ) (words : ℕ) (f : Found) (T' : List ℕ) (number rows used place body : ℕ) : Type 0 where
  pub numbers : card_report number rows used place body ≡ report_of (answer_for s words f)
  pub table : T' ≡ table_for s words f
