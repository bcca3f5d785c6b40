use Rattle.decimal.proofs.Gathering.{Gathers}
use Rattle.decimal.proofs.gather.Given as goal

abbrev pub invariant-loop-b : goal.invariant-loop-b
invariant-loop-b l = Gathers l.s l.number l.count l.b-index
