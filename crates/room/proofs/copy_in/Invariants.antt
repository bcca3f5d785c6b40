use Rattle.room.proofs.Copying.{Copying}
use Rattle.room.proofs.copy_in.Given as goal

abbrev pub invariant-loop-i : goal.invariant-loop-i
invariant-loop-i l = Copying l.initial.bytes l.at l.others l.n l.i l.bytes
