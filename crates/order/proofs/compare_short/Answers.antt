use Rattle.std.proofs.Common.{◌∙◌}
use Rattle.order.proofs.Comparing.{byte_differs}
use Rattle.order.proofs.compare_short.Goals as goal

pub returns-then-a-k : goal.returns-then-a-k
returns-then-a-k c = c.cmp.ensures ∙ byte_differs c.loop-k.invariant c.loop-k-test.true c.if-a-k.true
