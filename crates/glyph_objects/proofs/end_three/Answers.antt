use Rattle.glyph_objects.proofs.Ending.{ending}
use Rattle.glyph_objects.proofs.end_three.Goals as goal

pub returns-then-s-at : goal.returns-then-s-at
returns-then-s-at c = search ending

pub returns-then-s-at-ne59 : goal.returns-then-s-at-ne59
returns-then-s-at-ne59 c = search ending

pub returns : goal.returns
returns c = search ending
