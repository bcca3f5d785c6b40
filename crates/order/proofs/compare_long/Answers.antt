use Rattle.std.proofs.Common.{◌∙◌}
use Rattle.order.proofs.Comparing.{turn_differs, turn_again, last_differs, last_same}
use Rattle.order.proofs.compare_long.Goals as goal

pub returns-then-x-y : goal.returns-then-x-y
returns-then-x-y c = c.cmp.ensures ∙ turn_differs c.loop-k.invariant c.loop-k-test.true c.rank_at-x.ensures c.rank_at-y.ensures c.if-x-y.true

pub loop-k-preserved : goal.loop-k-preserved
loop-k-preserved c = turn_again c.loop-k.invariant c.loop-k-test.true c.rank_at-x.ensures c.rank_at-y.ensures c.if-x-y.false

pub returns-then-x-y-2 : goal.returns-then-x-y-2
returns-then-x-y-2 c = c.cmp-then-x-y-2.ensures ∙ last_differs c.loop-k.invariant c.loop-k-test.false c.rank_at-x-2.ensures c.rank_at-y-2.ensures c.if-x-y-2.true

pub compare_lengths-requires : goal.compare_lengths-requires
compare_lengths-requires c = (c.requires.0, last_same c.loop-k.invariant c.loop-k-test.false c.rank_at-x-2.ensures c.rank_at-y-2.ensures c.if-x-y-2.false)
