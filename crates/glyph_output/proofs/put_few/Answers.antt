use Rattle.std.proofs.Common.{rules}
use Rattle.glyph_output.proofs.Leaves.{leaves}
use Rattle.glyph_output.proofs.put_few.Goals as goal

pub returns-in-0-to-9 : goal.returns-in-0-to-9
returns-in-0-to-9 c = search (rules, leaves)

pub returns-in-10-to-99 : goal.returns-in-10-to-99
returns-in-10-to-99 c = search (rules, leaves)

pub returns-in-100-to-999 : goal.returns-in-100-to-999
returns-in-100-to-999 c = search (rules, leaves)

pub returns-in_default : goal.returns-in_default
returns-in_default c = search (rules, leaves)
