-- What answers each return of the exported functions on lookups, positions and job defaults. Assumes nothing.
use mathlib.Core.Path.{◌≡◌, ap, ◌∙◌}
use Prim.Native.Nat.{ℕ}
use Rattle.lookup_answer.specs.Answers.{Answer}
use Rattle.lookup_answer.specs.declared.Report.{Report}
use Rattle.lookup_answer.specs.Reports.{report_of}
use Rattle.placing.specs.declared.Position.{Position}
use Rattle.placing.specs.declared.Placed.{Placed}
use Rattle.choice.specs.Choosing.{Choice}
use Rattle.lookup_reports.specs.Numbers.{PositionReported, TextReport, text_report_of}

pub reports_member : {a b : Answer} {r x : Report} → a ≡ b → r ≡ report_of a → x ≡ r → x ≡ report_of b
reports_member e f g = g ∙ f ∙ ap report_of e

pub reports_position : {p q : Placed} {n : ℕ} {v : Position} → p ≡ q → PositionReported p n v → PositionReported q n v
reports_position e f = rw e at f

pub reports_text : {c x : Choice} {t : TextReport} → c ≡ x → t ≡ text_report_of c → t ≡ text_report_of x
reports_text e f = f ∙ ap text_report_of e

pub ruleset looking = (reports_member, reports_position, reports_text)
