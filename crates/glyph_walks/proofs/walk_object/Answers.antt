use Rattle.std.proofs.Common.{rules}
use Rattle.glyph_walks.proofs.Walks.{walks, objects}
use Rattle.glyph_walks.proofs.walk_object.Goals as goal

pub returns-then-rows-r : goal.returns-then-rows-r
returns-then-rows-r c = search objects

pub walk_container-requires : goal.walk_container-requires
walk_container-requires c = (search walks, search walks, search rules)

pub returns-then-holds : goal.returns-then-holds
returns-then-holds c = search objects

pub returns : goal.returns
returns c = search objects
