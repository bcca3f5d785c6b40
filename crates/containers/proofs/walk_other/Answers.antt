use Rattle.containers.proofs.Nesting.{nesting}
use Rattle.containers.proofs.walk_other.Goals as goal

pub returns : goal.returns
returns c = search nesting
