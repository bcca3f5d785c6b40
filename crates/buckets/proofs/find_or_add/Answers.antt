use Rattle.buckets.proofs.Chaining.{chaining}
use Rattle.buckets.proofs.find_or_add.Goals as goal

pub returns : goal.returns
returns c = search chaining
