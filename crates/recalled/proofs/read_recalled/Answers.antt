use Rattle.item.proofs.Items.{leaves}
use Rattle.recalled.proofs.read_recalled.Goals as goal

pub returns : goal.returns
returns c = search leaves
