use Rattle.double.proofs.Passing.{passed_end, passed_more, passed_stop}
use Rattle.double.proofs.past_digits.Goals as goal

pub loop-i-preserved : goal.loop-i-preserved
loop-i-preserved c = passed_more c.loop-i.invariant c.loop-i-test.true c.is_digit.ensures c.if-is_digit.true

pub returns-else-is_digit : goal.returns-else-is_digit
returns-else-is_digit c = passed_stop c.loop-i.invariant c.loop-i-test.true c.is_digit.ensures c.if-is_digit.false

pub returns-after-loop-i : goal.returns-after-loop-i
returns-after-loop-i c = passed_end c.loop-i.invariant c.loop-i-test.false
