use Rattle.glyph_texts.proofs.Texts.{texts}
use Rattle.glyph_texts.proofs.read_lengthened.Goals.{then-end-at-via-then-end-at, then-end-at-via-else-end-at+then-s-end-ne58}
use Rattle.glyph_texts.proofs.read_lengthened.Goals as goal

pub returns-then-s-end : goal.returns-then-s-end
returns-then-s-end c = search texts

pub returns-then-end-at : goal.returns-then-end-at
returns-then-end-at c = elim c.then-end-at.branch [
  | then-end-at-via-then-end-at w ↦ search texts
  | then-end-at-via-else-end-at+then-s-end-ne58 w ↦ search texts
]

pub returns : goal.returns
returns c = search texts
