use Rattle.shape.proofs.Calling.{faults}
use Rattle.shape.proofs.walk_fault_struct.Goals as goal

pub returns-in_err-next : goal.returns-in_err-next
returns-in_err-next c = search (faults, c.in_err-next.ensures.says)

pub returns-then-rows-next : goal.returns-then-rows-next
returns-then-rows-next c = search (faults, c.in_ok-next.ensures.says)

pub returns-in-Ok : goal.returns-in-Ok
returns-in-Ok c = search (faults, c.in_ok-next.ensures.says)

pub returns-in-Err : goal.returns-in-Err
returns-in-Err c = search (faults, c.in_ok-next.ensures.says)
