-- The report of an answer is that of its reading. Assumes nothing.
use Rattle.std.proofs.Common.{◌≡◌, refl}
use Rattle.glyph.specs.Read.{Reading, got, refused}
use Rattle.glyph.specs.Answers.{answer_of}
use Rattle.glyph_reports.specs.Numbers.{reading_report, report_of}

pub report_is : (o : Reading) → report_of (answer_of o) ≡ reading_report o
report_is (got rows used) = refl
report_is (refused m place) = refl
