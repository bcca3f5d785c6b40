use Rattle.std.proofs.Common.{◌-◌, length}
use Rattle.text.specs.Runs.{Run}
use Rattle.runs.proofs.past_most.Given as goal

abbrev pub invariant-loop-at : goal.invariant-loop-at
invariant-loop-at l = Run l.s l.from l.at

abbrev pub decreases-loop-at : goal.decreases-loop-at
decreases-loop-at l = length l.s - l.at
