use Rattle.glyph_texts.proofs.Texts.{texts}
use Rattle.glyph_texts.proofs.read_unicode.Goals as goal

pub returns-then-room-row : goal.returns-then-room-row
returns-then-room-row c = search texts

pub read_text-requires : goal.read_text-requires
read_text-requires c = search texts

pub returns : goal.returns
returns c = search texts
