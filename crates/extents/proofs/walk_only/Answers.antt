use Rattle.std.proofs.Common.{rules}
use Rattle.extents.proofs.Walking.{walking}
use Rattle.extents.proofs.walk_only.Goals as goal

pub returns-then-rows-r : goal.returns-then-rows-r
returns-then-rows-r c = search walking

pub walk_content-requires : goal.walk_content-requires
walk_content-requires c = (search rules, search walking)

pub returns-then-row-kind : goal.returns-then-row-kind
returns-then-row-kind c = search walking

pub returns-else-row-kind : goal.returns-else-row-kind
returns-else-row-kind c = search walking
