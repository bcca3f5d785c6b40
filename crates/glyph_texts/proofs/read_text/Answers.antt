use Rattle.glyph_texts.proofs.Texts.{texts}
use Rattle.glyph_texts.proofs.read_text.Goals as goal

pub returns-then-goes_on : goal.returns-then-goes_on
returns-then-goes_on c = search texts

pub returns : goal.returns
returns c = search texts
