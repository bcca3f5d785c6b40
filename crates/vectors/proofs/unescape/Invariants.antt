use Rattle.std.proofs.Common.{◌≤◌}
use Rattle.vectors.proofs.unescape.Given as goal

abbrev pub invariant-loop-slot : goal.invariant-loop-slot
invariant-loop-slot l = l.n ≤ l.slot-index
