use Rattle.std.proofs.Common.{rules}
use Rattle.glyph_reader.proofs.Messages.{whole}
use Rattle.glyph_reader.proofs.read_root.Goals as goal

pub read_unicode-requires : goal.read_unicode-requires
read_unicode-requires c = (search whole, search whole)

pub returns-then-text_at : goal.returns-then-text_at
returns-then-text_at c = search whole
