use Rattle.std.proofs.Common.{rules}
use Rattle.glyph_output.proofs.Adding.{adding}
use Rattle.glyph_output.proofs.Leaves.{leaves}
use Rattle.glyph_output.proofs.put_digits.Goals as goal

pub put_four-requires : goal.put_four-requires
put_four-requires c = (search adding, search rules)

pub returns : goal.returns
returns c = search (rules, leaves)
