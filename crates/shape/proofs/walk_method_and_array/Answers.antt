use Rattle.shape.proofs.Calling.{calling}
use Rattle.shape.proofs.walk_method_and_array.Goals as goal

pub returns-in_err-next : goal.returns-in_err-next
returns-in_err-next c = search (calling, c.in_err-next.ensures)

pub walk_array-requires : goal.walk_array-requires
walk_array-requires c = search (calling, c.in_ok-next.ensures)

pub returns : goal.returns
returns c = search (calling, c.in_ok-next.ensures)
