-- The numbers that reading a glyph message reports, as one record: documents 01's and 02's numbers. Assumes nothing.
use Rattle.std.specs.Prelude.{Ok, Err, ℕ, length}
use Rattle.glyph.specs.Refusals.{number_of}
use Rattle.glyph.specs.Read.{Reading, got, refused}
use Rattle.glyph.specs.Answers.{Answer}
use Rattle.glyph_stations.specs.Answers.{StationAnswer}

pub record Report : Type 0 where
  pub number : ℕ
  pub rows : ℕ
  pub used : ℕ
  pub place : ℕ

abbrev pub report : ℕ → ℕ → ℕ → ℕ → Report
report number rows used place = record { number = number; rows = rows; used = used; place = place }

-- of what a message is read as
abbrev pub reading_report : Reading → Report
reading_report (got rows used) = report 0 (length rows) used 0
reading_report (refused refusal place) = report (number_of refusal) 0 0 place

-- of an answer: for the answer to a message it is the report above
abbrev pub report_of : Answer → Report
report_of (Ok x) = report 0 x.rows x.used 0
report_of (Err x) = report (number_of x.refusal) 0 0 x.place

abbrev pub station_report_of : StationAnswer → Report
station_report_of (Ok a) = report_of a
station_report_of (Err e) = report 22 0 0 0
