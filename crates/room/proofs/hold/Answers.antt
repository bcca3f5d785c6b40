use Rattle.room.proofs.Holding.{holding}
use Rattle.room.proofs.hold.Goals as goal

pub returns-then-held-piece : goal.returns-then-held-piece
returns-then-held-piece c = search holding

pub returns : goal.returns
returns c = search holding
