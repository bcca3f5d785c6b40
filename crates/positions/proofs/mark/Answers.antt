use Rattle.std.proofs.Common.{arith, refl, length-set}
use Rattle.positions.proofs.Placing.{mark_again, mark_never}
use Rattle.positions.proofs.mark.Goals as goal
use Rattle.positions.proofs.mark.Goals.{then-f-j, else-f-j}

pub loop-j-preserved : goal.loop-j-preserved
loop-j-preserved c =
    elim c.if-f-j.branch [
      | then-f-j w ↦ rw w.spots-is (mark_again c.loop-j.invariant.0 (omega arith) refl, simp length-set c.loop-j.invariant.1)
      | else-f-j w ↦ rw w.spots-is (mark_never c.loop-j.invariant.0 (omega arith) refl (omega arith), c.loop-j.invariant.1)
    ]
