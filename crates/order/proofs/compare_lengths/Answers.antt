use Rattle.std.proofs.Common.{◌∙◌}
use Rattle.order.proofs.Comparing.{by_length}
use Rattle.order.proofs.compare_lengths.Goals as goal

pub returns : goal.returns
returns c = c.cmp.ensures ∙ by_length c.requires.0 c.requires.1
