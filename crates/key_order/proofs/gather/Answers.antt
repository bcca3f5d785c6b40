use Rattle.std.proofs.Common.{rules}
use Rattle.key_order.proofs.Arranging.{gathering}
use Rattle.key_order.proofs.gather.Goals as goal

pub loop-row-preserved : goal.loop-row-preserved
loop-row-preserved c = search (rules, gathering)
