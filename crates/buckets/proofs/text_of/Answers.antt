use Rattle.buckets.proofs.Comparing.{comparing}
use Rattle.buckets.proofs.text_of.Goals as goal

pub returns : goal.returns
returns c = search comparing
