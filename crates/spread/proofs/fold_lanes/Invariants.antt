use Rattle.spread.proofs.Mixing.{Lanes}
use Rattle.spread.proofs.fold_lanes.Given as goal

abbrev pub invariant-loop-i : goal.invariant-loop-i
invariant-loop-i l = Lanes l.t l.n l.a l.b l.c l.d l.i
