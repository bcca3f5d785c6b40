-- What the page of E2 says of a card's report: what of it is the card's own, and a number with its place. Assumes nothing.
use Rattle.std.specs.Prelude.{◌≡◌, ℕ}
use Rattle.read_answer.specs.Answers as reader
use Rattle.job.specs.Cards.{Answer, Report, report_of}

-- a card's report, save where its body lies: what `reader::read` reports
abbrev pub own : Report → reader.Report
own r = record { number = r.number; rows = r.rows; used = r.used; place = r.place }

-- an answer is reported as a number with a place
abbrev pub Reported : Answer → ℕ → ℕ → Type 0
Reported a number place = ((report_of a).number ≡ number) × ((report_of a).place ≡ place)
