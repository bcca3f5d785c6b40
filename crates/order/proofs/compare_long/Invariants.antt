use Rattle.std.proofs.Common.{◌-◌}
use Rattle.order.proofs.Comparing.{ByEights}
use Rattle.order.proofs.compare_long.Given as goal

abbrev pub invariant-loop-k : goal.invariant-loop-k
invariant-loop-k l = ByEights l.a l.b l.least l.last l.k

abbrev pub decreases-loop-k : goal.decreases-loop-k
decreases-loop-k l = l.last - l.k
