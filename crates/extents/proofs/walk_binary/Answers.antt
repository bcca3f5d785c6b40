use Rattle.extents.proofs.Walking.{walking}
use Rattle.extents.proofs.walk_binary.Goals as goal

pub returns-then-text-from : goal.returns-then-text-from
returns-then-text-from c = search walking

pub returns : goal.returns
returns c = search walking
