use Rattle.std.proofs.Common.{rules}
use Rattle.key_order.proofs.Arranging.{counting}
use Rattle.key_order.proofs.is_over.Goals as goal

pub loop-row-preserved : goal.loop-row-preserved
loop-row-preserved c = search (rules, counting)
