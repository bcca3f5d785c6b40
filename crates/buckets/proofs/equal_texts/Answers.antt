use Rattle.buckets.proofs.Comparing.{texts_one, texts_equal}
use Rattle.buckets.proofs.equal_texts.Goals as goal

pub returns-then-x-y-2 : goal.returns-then-x-y-2
returns-then-x-y-2 c = search texts_one

pub returns : goal.returns
returns c = search texts_equal
