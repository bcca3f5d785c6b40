use Rattle.std.proofs.Common.{◌∙◌}
use Rattle.std.proofs.Common.{arith, ap}
use Rattle.date.proofs.Days.{month_zero, month_over, early_day, late_day}
use Rattle.date.proofs.is_day.Goals.{then-month-lt1-via-then-month-lt1, then-month-lt1-via-else-month-lt1+then-month-gt12}
use Rattle.date.proofs.is_day.Goals as goal

pub returns-then-month-lt1 : goal.returns-then-month-lt1
returns-then-month-lt1 c = elim c.then-month-lt1.branch [ then-month-lt1-via-then-month-lt1 w ↦ month_zero c.args.year c.args.month c.args.day (omega arith) | then-month-lt1-via-else-month-lt1+then-month-gt12 w ↦ month_over c.args.year c.args.month c.args.day (omega arith) ]

pub returns-then-day-le28 : goal.returns-then-day-le28
returns-then-day-le28 c = early_day c.args.year c.args.month c.args.day (omega arith) (omega arith) (omega arith)

pub returns : goal.returns
returns c = late_day c.args.year c.args.month c.args.day (omega arith) (omega arith) (omega arith) (c.from.ensures ∙ c.month_days.ensures)
