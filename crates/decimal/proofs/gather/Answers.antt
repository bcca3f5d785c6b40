use Rattle.std.proofs.Common.{rules}
use Rattle.decimal.proofs.Gathering.{gathering, gathers_more, gathers_other}
use Rattle.decimal.proofs.gather.Goals as goal
use Rattle.decimal.proofs.gather.Goals.{then-is_digit+else-count-eq-MOST, else-is_digit}

pub returns-then-count-eq-MOST : goal.returns-then-count-eq-MOST
returns-then-count-eq-MOST c = search (rules, gathering)

pub overflow_mul-number : goal.overflow_mul-number
overflow_mul-number c = search (rules, gathering)

pub overflow_add-number : goal.overflow_add-number
overflow_add-number c = search (rules, gathering)

pub loop-b-preserved : goal.loop-b-preserved
loop-b-preserved c = elim c.if-is_digit.branch [ then-is_digit+else-count-eq-MOST w ↦ rw (w.number-is, w.count-is) (gathers_more c.loop-b.invariant c.loop-b-test.true c.is_digit.ensures w.if-is_digit.true w.if-count-eq-MOST.false w.digit_value.ensures) | else-is_digit w ↦ rw (w.number-is, w.count-is) (gathers_other c.loop-b.invariant c.loop-b-test.true c.is_digit.ensures w.if-is_digit.false) ]

pub returns : goal.returns
returns c = search (rules, gathering)
