use Rattle.buckets.proofs.Chaining.{chaining}
use Rattle.buckets.proofs.find.Goals as goal

pub returns-then-equal_texts : goal.returns-then-equal_texts
returns-then-equal_texts c = search chaining

pub loop-c-preserved : goal.loop-c-preserved
loop-c-preserved c = search chaining

pub returns : goal.returns
returns c = search chaining
