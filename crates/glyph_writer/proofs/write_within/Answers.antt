use Rattle.glyph_writer.proofs.Answering.{answering}
use Rattle.glyph_writer.proofs.write_within.Goals as goal

pub returns-then-text-gt-MOST_BYTES : goal.returns-then-text-gt-MOST_BYTES
returns-then-text-gt-MOST_BYTES c = search answering

pub returns-then-writable : goal.returns-then-writable
returns-then-writable c = search answering

pub returns : goal.returns
returns c = search answering
