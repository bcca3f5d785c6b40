use Rattle.item.proofs.Items.{strings}
use Rattle.others.proofs.read_type.Goals as goal

pub returns-then-s-at : goal.returns-then-s-at
returns-then-s-at c = search strings

pub returns-in-60 : goal.returns-in-60
returns-in-60 c = search strings
