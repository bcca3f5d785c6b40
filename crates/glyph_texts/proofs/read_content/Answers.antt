use Rattle.glyph_texts.proofs.Texts.{texts}
use Rattle.glyph_texts.proofs.read_content.Goals as goal

pub returns-then-s-end : goal.returns-then-s-end
returns-then-s-end c = search texts

pub returns-then-s-end-ne59 : goal.returns-then-s-end-ne59
returns-then-s-end-ne59 c = search texts

pub returns-then-not-is_good : goal.returns-then-not-is_good
returns-then-not-is_good c = search texts

pub returns : goal.returns
returns c = search texts
