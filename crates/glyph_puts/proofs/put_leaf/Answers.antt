use Rattle.glyph_puts.proofs.Puts.{leafs}
use Rattle.glyph_puts.proofs.put_leaf.Goals as goal

pub returns-in-4 : goal.returns-in-4
returns-in-4 c = search leafs

pub returns-in-5 : goal.returns-in-5
returns-in-5 c = search leafs

pub returns-in-8 : goal.returns-in-8
returns-in-8 c = search leafs

pub returns-in-11 : goal.returns-in-11
returns-in-11 c = search leafs

pub returns-in_default : goal.returns-in_default
returns-in_default c = search leafs
