use Rattle.std.proofs.Common.{◌≡◌, length}
use Rattle.positions.proofs.Placing.{Placing}
use Rattle.positions.proofs.number.Given as goal

abbrev pub invariant-loop-j : goal.invariant-loop-j
invariant-loop-j l = Placing l.count l.firsts l.initial.spots l.j l.next l.spots × (length l.spots ≡ length l.initial.spots)
