use Rattle.std.proofs.Common.{arith, refl, length-set}
use Rattle.positions.proofs.Placing.{place_first, place_new, place_once, place_old}
use Rattle.positions.proofs.number.Goals as goal
use Rattle.positions.proofs.number.Goals.{then-firsts-j+then-spots-j-gt0, then-firsts-j+else-spots-j-gt0, else-firsts-j}

pub loop-j-init : goal.loop-j-init
loop-j-init c = (place_first _ _ _ (omega arith), refl)

pub loop-j-preserved : goal.loop-j-preserved
loop-j-preserved c =
    elim c.if-firsts-j.branch [
      | then-firsts-j+then-spots-j-gt0 w ↦
          rw (w.spots-is, w.next-is) (place_new c.loop-j.invariant.0 (omega arith) refl w.if-firsts-j.true w.if-spots-j-gt0.true, simp length-set c.loop-j.invariant.1)
      | then-firsts-j+else-spots-j-gt0 w ↦
          rw (w.spots-is, w.next-is) (place_once c.loop-j.invariant.0 (omega arith) refl w.if-firsts-j.true w.if-spots-j-gt0.false, simp length-set c.loop-j.invariant.1)
      | else-firsts-j w ↦ rw (w.spots-is, w.next-is) (place_old c.loop-j.invariant.0 (omega arith) refl w.if-firsts-j.false, c.loop-j.invariant.1)
    ]
