use Rattle.glyph_shape.proofs.Whole.{whole}
use borrow.Author.Rules.{rules}
use Rattle.glyph_shape.proofs.walk_root.Statement.{statement}
use Rattle.glyph_shape.proofs.walk_root.Tie as tie

-- src/lib.rt:33:5
walk_object_requires : tie.Need-walk_object-requires
walk_object_requires c κs = search whole

-- src/lib.rt:20:1
same_length : tie.Need-shape_of-notes
same_length c = search rules

-- src/lib.rt:20:1
returns : tie.Need-returns
returns c = search rules

pub walk_root_spec : {M : Type 1} → statement M
walk_root_spec = tie.close (tie.spec walk_object_requires same_length returns)
