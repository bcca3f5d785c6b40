use Rattle.merging.proofs.Words.{merging}
use Rattle.merging.proofs.merge_runs.Goals as goal

pub loop-i-preserved-then-take_next : goal.loop-i-preserved-then-take_next
loop-i-preserved-then-take_next c = search merging

pub loop-i-preserved : goal.loop-i-preserved
loop-i-preserved c = search merging
