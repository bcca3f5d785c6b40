use Rattle.prices.proofs.Pricing.{picking}
use Rattle.prices.proofs.size_of.Goals as goal

pub returns : goal.returns
returns c = search picking
