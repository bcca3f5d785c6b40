use Rattle.plans.proofs.Costing.{costing}
use Rattle.plans.proofs.cost.Goals as goal

pub loop-j-preserved : goal.loop-j-preserved
loop-j-preserved c = search costing

pub returns : goal.returns
returns c = search costing
