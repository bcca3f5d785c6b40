use Rattle.heads.proofs.Values.{values}
use Rattle.heads.proofs.read_head.Goals as goal

pub returns-then-deep-eq0 : goal.returns-then-deep-eq0
returns-then-deep-eq0 c = search values

pub returns-then-room-row : goal.returns-then-room-row
returns-then-room-row c = search values

pub returns-then-s-at : goal.returns-then-s-at
returns-then-s-at c = search values

pub returns : goal.returns
returns c = search values
