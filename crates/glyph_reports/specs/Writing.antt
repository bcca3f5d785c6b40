-- The numbers that writing a glyph message reports, as one record: documents 01's and 02's numbers. Assumes nothing.
use Rattle.std.specs.Prelude.{ℕ, Ok, Err}
use Rattle.draft.specs.Refusals.{number_of}
use Rattle.glyph_form.specs.Answers.{Answer}
use Rattle.glyph_stations.specs.Answers.{WriteAnswer}

-- 'place is 0 for the writer'
pub record Report : Type 0 where
  pub number : ℕ
  pub length : ℕ

abbrev pub report : ℕ → ℕ → Report
report number size = record { number = number; length = size }

abbrev pub report_of : Answer → Report
report_of (Ok n) = report 0 n
report_of (Err refusal) = report (number_of refusal) 0

abbrev pub station_report_of : WriteAnswer → Report
station_report_of (Ok a) = report_of a
station_report_of (Err unsplit) = report 22 0
