use Rattle.containers.proofs.Nesting.{nesting}
use Rattle.containers.proofs.walk_name_and_binary.Goals as goal

pub returns-in_err-next : goal.returns-in_err-next
returns-in_err-next c = search (nesting, c.in_err-next.ensures)

pub returns : goal.returns
returns c = search (nesting, c.in_ok-next.ensures)
