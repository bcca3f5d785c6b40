use Rattle.std.proofs.Common.{arith, refl, length-set}
use Rattle.sending.proofs.Collecting.{collect_first, collect_string, collect_other, collect_done}
use Rattle.sending.proofs.collect.Goals as goal
use Rattle.sending.proofs.collect.Goals.{then-row-eq11, else-row-eq11}

pub loop-r-init : goal.loop-r-init
loop-r-init c = (collect_first _ _ _ (omega arith), refl)

pub loop-r-preserved : goal.loop-r-preserved
loop-r-preserved c =
    elim c.if-row-eq11.branch [
      | then-row-eq11 w ↦
          rw (w.strings-is, w.n-is) (collect_string c.loop-r.invariant.0 c.loop-r-test.true c.get_row-row.ensures w.if-row-eq11.true, simp length-set c.loop-r.invariant.1)
      | else-row-eq11 w ↦ rw (w.strings-is, w.n-is) (collect_other c.loop-r.invariant.0 c.loop-r-test.true c.get_row-row.ensures w.if-row-eq11.false, c.loop-r.invariant.1)
    ]

pub returns : goal.returns
returns c = collect_done c.loop-r.invariant.0 c.loop-r-test.false
