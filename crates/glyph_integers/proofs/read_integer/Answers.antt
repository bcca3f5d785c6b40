use Rattle.std.proofs.Common.{rules}
use Rattle.glyph_integers.proofs.Integers.{integers}
use Rattle.glyph_integers.proofs.read_integer.Goals as goal

pub returns-then-s-at : goal.returns-then-s-at
returns-then-s-at c = search integers

pub returns : goal.returns
returns c = search integers
