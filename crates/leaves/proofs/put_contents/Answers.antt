use Rattle.item.proofs.Items.{leaves}
use Rattle.leaves.proofs.put_contents.Goals as goal

pub overflow_add-o : goal.overflow_add-o
overflow_add-o c = search leaves

pub overflow_cast-o : goal.overflow_cast-o
overflow_cast-o c = search leaves

pub overflow_cast-n : goal.overflow_cast-n
overflow_cast-n c = search leaves

pub returns-in-Err : goal.returns-in-Err
returns-in-Err c = search leaves

pub returns-in-Ok : goal.returns-in-Ok
returns-in-Ok c = search leaves
