use Rattle.std.proofs.Common.{rules, arith}
use Rattle.glyph_output.proofs.Adding.{adds_mid, adds_not}
use Rattle.glyph_output.proofs.put.Goals as goal

pub returns-then-stop-most : goal.returns-then-stop-most
returns-then-stop-most g c = adds_mid c.requires.0 _ g.row.N (search rules) (omega arith) (search rules) c.copy_from_slice.ensures.after

pub returns : goal.returns
returns g c = adds_not c.requires.0 _ g.row.N (search rules) (omega arith) (search rules)
