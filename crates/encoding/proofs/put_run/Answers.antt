use Rattle.encoding.proofs.Running.{running}
use Rattle.encoding.proofs.put_run.Goals as goal

pub overflow_add-result-then-left-n : goal.overflow_add-result-then-left-n
overflow_add-result-then-left-n c = search running

pub returns-then-left-n : goal.returns-then-left-n
returns-then-left-n c = search running

pub loop-r-preserved : goal.loop-r-preserved
loop-r-preserved c = search running
