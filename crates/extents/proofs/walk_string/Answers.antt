use Rattle.extents.proofs.Walking.{walking}
use Rattle.extents.proofs.walk_string.Goals as goal

pub returns : goal.returns
returns c = search walking
