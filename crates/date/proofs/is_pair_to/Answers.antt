use Rattle.std.proofs.Common.{◌∙◌}
use Rattle.date.proofs.Shaping.{pair_to_is, no_pair}
use Rattle.date.proofs.is_pair_to.Goals as goal

pub returns-then-is_pair : goal.returns-then-is_pair
returns-then-is_pair c = pair_to_is c.args.s.now c.args.at c.args.most c.is_pair.ensures c.if-is_pair.true c.two_digits.ensures

pub returns-else-is_pair : goal.returns-else-is_pair
returns-else-is_pair c = c.if-is_pair.false ∙ no_pair c.args.s.now c.args.at c.args.most c.is_pair.ensures c.if-is_pair.false
