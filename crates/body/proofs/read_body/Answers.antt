use Rattle.body.proofs.Bodies.{bodies}
use Rattle.body.proofs.read_body.Goals as goal

pub returns-in-Err : goal.returns-in-Err
returns-in-Err c = search bodies

pub returns-in-Ok : goal.returns-in-Ok
returns-in-Ok c = search bodies
