use Rattle.std.proofs.Common.{rules}
use Rattle.glyph_output.proofs.Leaves.{leaves}
use Rattle.glyph_output.proofs.put_four.Goals as goal

pub returns : goal.returns
returns c = search (rules, leaves)
