use Rattle.std.proofs.Common.{rules}
use Rattle.joblist.proofs.Passing.{passing}
use Rattle.joblist.proofs.list_job.Goals as goal

pub overflow_add-from : goal.overflow_add-from
overflow_add-from c = search passing

pub loop-from-smaller : goal.loop-from-smaller
loop-from-smaller c = search passing

pub loop-from-preserved : goal.loop-from-preserved
loop-from-preserved c = (search passing, search passing, search rules)
