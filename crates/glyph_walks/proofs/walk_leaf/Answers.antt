use Rattle.glyph_walks.proofs.Childless.{leafs}
use Rattle.glyph_walks.proofs.walk_leaf.Goals as goal

pub walk_content-requires : goal.walk_content-requires
walk_content-requires c = (search leafs, search leafs)

pub walk_content-requires-in-11 : goal.walk_content-requires-in-11
walk_content-requires-in-11 c = (search leafs, search leafs)
