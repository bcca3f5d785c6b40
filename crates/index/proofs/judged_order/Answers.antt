use borrow.Author.Rules.{rules}
use Rattle.shape.proofs.Judged.{rows_stated, room_most, room_inside}
use Rattle.index.proofs.Arranging.{listing}
use Rattle.index.proofs.judged_order.Goals as goal

pub returns-then-not-writable : goal.returns-then-not-writable
returns-then-not-writable c = search listing

pub arrange-requires : goal.arrange-requires
arrange-requires c = (search rows_stated, search room_most, search room_inside, search rules)

pub returns : goal.returns
returns c = search listing
