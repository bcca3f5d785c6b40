use Rattle.std.proofs.Common.{rules, ◌≡◌, Ok, Err}
use Rattle.item.proofs.Readings.{passed}
use Rattle.item.proofs.Items.{others}
use Rattle.others.proofs.read_other.Goals as goal

pub close-requires : goal.close-requires
close-requires c = (search others, search rules, search rules, search rules)

pub returns : goal.returns
returns c = search others
