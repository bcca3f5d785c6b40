use Rattle.order.proofs.Comparing.{Bytewise}
use Rattle.order.proofs.compare_short.Given as goal

abbrev pub invariant-loop-k : goal.invariant-loop-k
invariant-loop-k l = Bytewise l.a l.b l.least l.k
