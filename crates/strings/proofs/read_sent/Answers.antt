use Rattle.item.proofs.Items.{strings}
use Rattle.strings.proofs.read_sent.Goals as goal

pub returns-then-s-at : goal.returns-then-s-at
returns-then-s-at c = search strings

pub returns-in-85 : goal.returns-in-85
returns-in-85 c = search strings

pub returns-in-62 : goal.returns-in-62
returns-in-62 c = search strings

pub returns-in_default : goal.returns-in_default
returns-in_default c = search strings
