use Rattle.std.proofs.Common.{rules}
use Rattle.glyph_integers.proofs.Integers.{integers, number_none, number_wrong}
use Rattle.glyph_integers.proofs.read_number.Goals.{then-end-from-via-then-end-from, then-end-from-via-else-end-from+then-s-end-ne59}
use Rattle.glyph_integers.proofs.read_number.Goals as goal

pub returns-then-s-end : goal.returns-then-s-end
returns-then-s-end c = search integers

pub returns-then-end-from : goal.returns-then-end-from
returns-then-end-from c = elim c.then-end-from.branch [
  | then-end-from-via-then-end-from w ↦ search integers
  | then-end-from-via-else-end-from+then-s-end-ne59 w ↦ search integers
]

pub returns-then-not-in_range : goal.returns-then-not-in_range
returns-then-not-in_range c = search integers

pub word_of-word-requires : goal.word_of-word-requires
word_of-word-requires c = search integers

pub returns : goal.returns
returns c = search integers
