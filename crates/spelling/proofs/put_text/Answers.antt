use Rattle.std.proofs.Common.{rules}
use Rattle.spelling.proofs.Putting.{texts}
use Rattle.spelling.proofs.put_text.Goals as goal

pub loop-b-preserved : goal.loop-b-preserved
loop-b-preserved c = search (rules, texts)

pub returns : goal.returns
returns c = search (rules, texts)
