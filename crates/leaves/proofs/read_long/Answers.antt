use Rattle.item.proofs.Items.{leaves}
use Rattle.leaves.proofs.read_long.Goals as goal

pub returns : goal.returns
returns c = record { did = λ W. search leaves }
