use Rattle.std.proofs.Common.{◌∙◌}
use Rattle.date.proofs.Shaping.{time_is, no_hour}
use Rattle.date.proofs.is_time.Goals as goal

pub returns-then-is_pair_to : goal.returns-then-is_pair_to
returns-then-is_pair_to c = time_is c.args.s.now c.is_pair_to.ensures c.if-is_pair_to.true c.is_sixtieth.ensures c.is_sixtieth-then-is_pair_to.ensures

pub returns-else-is_pair_to : goal.returns-else-is_pair_to
returns-else-is_pair_to c = c.if-is_pair_to.false ∙ no_hour c.args.s.now c.is_pair_to.ensures c.if-is_pair_to.false
