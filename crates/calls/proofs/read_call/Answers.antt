use Rattle.std.proofs.Common.{rules}
use Rattle.calls.proofs.Calling.{calling}
use Rattle.calls.proofs.read_call.Goals as goal

pub close-requires : goal.close-requires
close-requires c = (search calling, search rules, search rules, search rules)

pub returns : goal.returns
returns c = search calling
