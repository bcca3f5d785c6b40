use Rattle.std.proofs.Common.{◌∙◌}
use Rattle.date.proofs.Shaping.{other_length, no_time, datetime_is}
use Rattle.date.proofs.is_datetime.Goals as goal

pub returns-then-s-ne17 : goal.returns-then-s-ne17
returns-then-s-ne17 c = other_length c.args.s.now c.if-s-ne17.true

pub returns-then-is_parted-is_time : goal.returns-then-is_parted-is_time
returns-then-is_parted-is_time c = datetime_is c.args.s.now c.if-s-ne17.false c.is_parted.ensures c.is_time.ensures c.if-is_parted-is_time.true c.is_date.ensures

pub returns-else-is_parted-is_time : goal.returns-else-is_parted-is_time
returns-else-is_parted-is_time c = c.if-is_parted-is_time.false ∙ no_time c.args.s.now c.if-s-ne17.false c.is_parted.ensures c.is_time.ensures c.if-is_parted-is_time.false
