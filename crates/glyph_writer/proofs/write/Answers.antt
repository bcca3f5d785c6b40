use Rattle.glyph_writer.proofs.Answering.{answering}
use Rattle.glyph_writer.proofs.write.Goals as goal

pub returns : goal.returns
returns c = search answering
