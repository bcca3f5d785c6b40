use Rattle.copying.proofs.Copying.{Copying}
use Rattle.copying.proofs.copy_singly.Given as goal

abbrev pub invariant-loop-i : goal.invariant-loop-i
invariant-loop-i l = Copying l.t l.initial.out l.i l.out
