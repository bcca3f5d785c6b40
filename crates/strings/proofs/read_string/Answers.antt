use Rattle.item.proofs.Items.{strings}
use Rattle.strings.proofs.read_string.Goals as goal

pub returns-then-s-at : goal.returns-then-s-at
returns-then-s-at c = search strings

pub returns-in-60 : goal.returns-in-60
returns-in-60 c = search strings
