use Rattle.std.proofs.Common.{rules}
use Rattle.text.proofs.Passing.{passing}
use Rattle.runs.proofs.past_most.Goals as goal

pub loop-at-preserved : goal.loop-at-preserved
loop-at-preserved c = search (rules, passing)
