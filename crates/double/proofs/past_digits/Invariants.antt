use Rattle.std.proofs.Common.{◌-◌, length}
use Rattle.double.proofs.Passing.{Passed}
use Rattle.double.proofs.past_digits.Given as goal

abbrev pub invariant-loop-i : goal.invariant-loop-i
invariant-loop-i l = Passed l.s l.at l.i

abbrev pub decreases-loop-i : goal.decreases-loop-i
decreases-loop-i l = length l.s - l.i
