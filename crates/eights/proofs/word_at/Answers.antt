use Rattle.std.proofs.Common.{refl, ◌∙◌, arith}
use Rattle.text.proofs.Passing.{word}
use Rattle.eights.proofs.word_at.Goals as goal

pub returns : goal.returns
returns c = c.from_le_bytes.ensures ∙ omega arith ∙ word c.args.s.now c.args.at c.requires refl refl refl refl refl refl refl refl
