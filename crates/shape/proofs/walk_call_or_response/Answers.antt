use Rattle.shape.proofs.Calling.{calling}
use Rattle.shape.proofs.walk_call_or_response.Goals as goal

pub returns-then-rows-r : goal.returns-then-rows-r
returns-then-rows-r c = search calling

pub returns-in-Call : goal.returns-in-Call
returns-in-Call c = search calling

pub returns-in-Response : goal.returns-in-Response
returns-in-Response c = search calling

pub returns-in-Fault : goal.returns-in-Fault
returns-in-Fault c = search calling

pub returns-in_default : goal.returns-in_default
returns-in_default c = search calling
