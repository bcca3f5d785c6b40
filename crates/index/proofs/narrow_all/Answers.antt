use Rattle.std.proofs.Common.{arith}
use Rattle.index.proofs.Storing.{all_again}
use Rattle.index.proofs.narrow_all.Goals as goal

pub loop-i-preserved : goal.loop-i-preserved
loop-i-preserved c = all_again c.loop-i.invariant (omega (arith, c.loop-i.invariant.same)) c.narrow.ensures
