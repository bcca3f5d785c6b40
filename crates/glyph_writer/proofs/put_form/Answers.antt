use Rattle.glyph_writer.proofs.Answering.{forms}
use Rattle.glyph_writer.proofs.put_form.Goals as goal

pub returns-then-rows-le65 : goal.returns-then-rows-le65
returns-then-rows-le65 c = search forms

pub returns : goal.returns
returns c = search forms
