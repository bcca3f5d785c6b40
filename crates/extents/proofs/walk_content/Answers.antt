use Rattle.extents.proofs.Walking.{walking}
use Rattle.extents.proofs.walk_content.Goals as goal

pub returns-then-is_checked : goal.returns-then-is_checked
returns-then-is_checked c = search walking

pub returns-then-not-sized : goal.returns-then-not-sized
returns-then-not-sized c = search walking

pub returns-in-Ok : goal.returns-in-Ok
returns-in-Ok c = search walking

pub returns-in-Err : goal.returns-in-Err
returns-in-Err c = search walking
