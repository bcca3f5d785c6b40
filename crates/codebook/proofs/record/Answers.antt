use Rattle.std.proofs.Common.{rules}
use Rattle.codebook.proofs.Recording.{recording}
use Rattle.codebook.proofs.record.Goals as goal

pub returns : goal.returns
returns c = search (recording, rules)
