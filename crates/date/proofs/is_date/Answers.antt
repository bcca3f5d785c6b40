use Rattle.date.proofs.Shaping.{no_digits, date_is}
use Rattle.date.proofs.is_date.Goals as goal

pub returns-then-not-is_pair : goal.returns-then-not-is_pair
returns-then-not-is_pair c = no_digits c.args.s.now c.is_pair.ensures c.is_pair-2.ensures c.is_pair-3.ensures c.is_pair-4.ensures c.if-not-is_pair.true

pub returns : goal.returns
returns c = date_is c.args.s.now c.is_pair.ensures c.is_pair-2.ensures c.is_pair-3.ensures c.is_pair-4.ensures c.if-not-is_pair.false c.two_digits.ensures c.two_digits-2.ensures c.two_digits-3.ensures c.two_digits-4.ensures c.is_day.ensures
