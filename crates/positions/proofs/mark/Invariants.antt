use Rattle.std.proofs.Common.{◌≡◌, length}
use Rattle.positions.proofs.Placing.{Marking}
use Rattle.positions.proofs.mark.Given as goal

abbrev pub invariant-loop-j : goal.invariant-loop-j
invariant-loop-j l = Marking l.count l.firsts l.j l.spots × (length l.spots ≡ length l.initial.spots)
