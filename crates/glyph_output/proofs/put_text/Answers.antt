use Rattle.std.proofs.Common.{rules, arith, refl}
use Rattle.glyph_output.proofs.Adding.{adding, adds_not}
use Rattle.glyph_output.proofs.put_text.Goals as goal

pub returns-then-stop-most : goal.returns-then-stop-most
returns-then-stop-most c = search adding

pub returns : goal.returns
returns c = adds_not c.requires.0 c.args.t.now _ refl (omega arith) (search rules)
