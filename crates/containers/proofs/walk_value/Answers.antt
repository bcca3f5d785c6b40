use Rattle.containers.proofs.Items.{walked}
use Rattle.containers.proofs.walk_value.Goals as goal

pub returns : goal.returns
returns c = search walked
