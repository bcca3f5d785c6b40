use Rattle.glyph_writer.proofs.Answering.{filling}
use Rattle.glyph_writer.proofs.fill.Goals as goal

pub returns-then-n-most : goal.returns-then-n-most
returns-then-n-most c = search filling

pub returns : goal.returns
returns c = search filling
