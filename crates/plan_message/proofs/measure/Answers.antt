use Rattle.plan_message.proofs.Writing.{measure_first, measure_done, measure_short, measure_through, measure_plan, measure_string, measure_item_fits, measure_other}
use Rattle.plan_message.proofs.measure.Goals as goal
use Rattle.plan_message.proofs.measure.Goals.{then-row-eq11, else-row-eq11}

pub loop-r-init : goal.loop-r-init
loop-r-init c = search measure_first

pub string_length-sum-requires : goal.string_length-sum-requires
string_length-sum-requires c = (search measure_through, search measure_plan, search measure_short)

pub overflow_add-sum-else-row-eq11 : goal.overflow_add-sum-else-row-eq11
overflow_add-sum-else-row-eq11 c = search measure_item_fits

pub loop-r-preserved : goal.loop-r-preserved
loop-r-preserved c =
    elim c.if-row-eq11.branch [
      | then-row-eq11 w ↦
          rw (w.sum-is, w.j-is) (measure_string c.loop-r.invariant c.get_row-row.ensures c.loop-r-test.true w.if-row-eq11.true w.string_length-sum.ensures)
      | else-row-eq11 w ↦ rw (w.sum-is, w.j-is) (measure_other c.loop-r.invariant c.get_row-row.ensures c.loop-r-test.true w.if-row-eq11.false w.item_length-sum.ensures)
    ]

pub returns : goal.returns
returns c = search measure_done
