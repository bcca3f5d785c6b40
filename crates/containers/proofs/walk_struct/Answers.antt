use Rattle.std.proofs.Common.{rules}
use Rattle.containers.proofs.Items.{walked}
use Rattle.containers.proofs.walk_struct.Goals as goal

pub walk_kind-requires : goal.walk_kind-requires
walk_kind-requires c = (search walked, search rules)

pub returns : goal.returns
returns c = search walked
