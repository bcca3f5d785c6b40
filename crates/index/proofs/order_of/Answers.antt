use borrow.Author.Rules.{rules}
use Rattle.index.specs.Filling.{padded}
use Rattle.index.proofs.Storing.{ordered_so}
use Rattle.index.proofs.order_of.Goals as goal

-- the new array holds no key row
pub judged_order-listed-requires : goal.judged_order-listed-requires
unfolding padded
judged_order-listed-requires c = search rules

pub returns : goal.returns
returns c = rw c.told.ensures (ordered_so c.judged_order-listed.ensures c.narrow_all.ensures)
