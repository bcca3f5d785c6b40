use Rattle.std.proofs.Common.{rules}
use Rattle.containers.proofs.Items.{walked}
use Rattle.containers.proofs.walk_kind.Goals as goal

pub returns-then-rows-r : goal.returns-then-rows-r
returns-then-rows-r c = search walked

pub walk_contents-requires : goal.walk_contents-requires
walk_contents-requires c = (search walked, search walked, search rules)

pub returns-then-row-kind : goal.returns-then-row-kind
returns-then-row-kind c = search walked

pub returns-else-row-kind : goal.returns-else-row-kind
returns-else-row-kind c = search walked
