-- The numbers that writing reports, as one record: documents 01's and 02's numbers. Assumes nothing.
use Rattle.std.specs.Prelude.{ℕ}
use Rattle.write_answer.specs.Answers as writer
use Rattle.plan_writer.specs.Answers as planner

abbrev pub report : ℕ → ℕ → writer.Report
report number size = record { number = number; length = size; place = 0 }

abbrev pub plan_report : ℕ → ℕ → planner.Report
plan_report number size = record { number = number; length = size; place = 0 }
