use Rattle.std.proofs.Common.{◌∙◌, ap, ◌<◌}
use Rattle.listed.specs.Listed.{listed}
use Rattle.lexical.specs.DateTime.{month_days}
use Rattle.date.proofs.Days.{table, days_at, row_is, row_below}
use Rattle.date.proofs.month_days.Goals as goal

pub returns : goal.returns
unfolding listed table month_days
returns c = let l : c.from.result < 2 = rw c.from.ensures (row_below c.is_leap.result) in days_at c.args.year c.args.month c.is_leap.ensures (c.from.ensures ∙ row_is c.is_leap.result) l c.requires
