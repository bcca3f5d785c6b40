-- The numbers that reading reports, as one record: documents 01's and 02's numbers. Assumes nothing.
use Rattle.std.specs.Prelude.{ℕ, Ok, Err}
use Rattle.read_answer.specs.Answers as reader
use Rattle.records.specs.Job.{refusal_number, Found}
use Rattle.job.specs.Cards as job

abbrev pub report : ℕ → ℕ → ℕ → ℕ → reader.Report
report number rows used place = record { number = number; rows = rows; used = used; place = place }

abbrev pub card_report : ℕ → ℕ → ℕ → ℕ → ℕ → job.Report
card_report number rows used place body = record { number = number; rows = rows; used = used; place = place; body = body }

-- of finding a card: 0, with the body's first byte and its length and place 0; or the refusal's number, with zeros and its place
pub record Finding : Type 0 where
  pub number : ℕ
  pub start : ℕ
  pub size : ℕ
  pub place : ℕ

abbrev pub finding_of : Found → Finding
finding_of (Ok body) = record { number = 0; start = body.start; size = body.length; place = 0 }
finding_of (Err none) = record { number = refusal_number none.refusal; start = 0; size = 0; place = none.place }

abbrev pub finding : ℕ → ℕ → ℕ → ℕ → Finding
finding number start size place = record { number = number; start = start; size = size; place = place }
