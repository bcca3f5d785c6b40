use Rattle.containers.proofs.Nesting.{nesting}
use Rattle.containers.proofs.walk_name.Goals as goal

pub returns-in_err-next : goal.returns-in_err-next
returns-in_err-next c = search (nesting, c.in_err-next.ensures)

pub row_text-requires : goal.row_text-requires
row_text-requires c = search (nesting, c.in_ok-next.ensures)

pub returns-in-Ok : goal.returns-in-Ok
returns-in-Ok c = search (nesting, c.in_ok-next.ensures)

pub returns-in-Err : goal.returns-in-Err
returns-in-Err c = search (nesting, c.in_ok-next.ensures)
