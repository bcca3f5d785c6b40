use Rattle.std.proofs.Common.{rules}
use Rattle.glyph_output.proofs.Leaves.{leaves}
use Rattle.glyph_output.proofs.put_boolean.Goals as goal

pub returns-then-n-eq0 : goal.returns-then-n-eq0
returns-then-n-eq0 c = search (rules, leaves)

pub returns-else-n-eq0 : goal.returns-else-n-eq0
returns-else-n-eq0 c = search (rules, leaves)
