use Rattle.std.proofs.Common.{rules}
use Rattle.text.proofs.Passing.{passing}
use Rattle.runs.proofs.past_last.Goals as goal

pub returns-then-eight_below : goal.returns-then-eight_below
returns-then-eight_below c = search (rules, passing)
