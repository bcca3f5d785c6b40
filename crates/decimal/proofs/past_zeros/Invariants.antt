use Rattle.decimal.proofs.Gathering.{Zeros}
use Rattle.decimal.proofs.past_zeros.Given as goal

abbrev pub invariant-loop-i : goal.invariant-loop-i
invariant-loop-i l = Zeros l.s l.i
