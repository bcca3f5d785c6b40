use Rattle.decimal.proofs.Gathering.{Unpointed}
use Rattle.decimal.proofs.places.Given as goal

abbrev pub invariant-loop-i : goal.invariant-loop-i
invariant-loop-i l = Unpointed l.s l.i
