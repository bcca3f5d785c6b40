use Rattle.std.proofs.Common.{rules, IsTrue, ◌↔◌, EachIndex, slice_index, ◌<◌}
use Rattle.ascii.proofs.Each.{by_each}
use Rattle.ascii.proofs.is_ascii.Goals as goal

pub returns : goal.returns
returns c = by_each c.args.s.now c.all.result (search rules)
