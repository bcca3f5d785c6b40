use Rattle.std.proofs.Common.{rules}
use Rattle.decimal.proofs.Gathering.{skipping}
use Rattle.decimal.proofs.past_zeros.Goals as goal

pub returns-then-is_nonzero-clause-counting : goal.returns-then-is_nonzero-clause-counting
returns-then-is_nonzero-clause-counting c = search (rules, skipping)

pub loop-i-preserved : goal.loop-i-preserved
loop-i-preserved c = search (rules, skipping)

pub returns-clause-counting : goal.returns-clause-counting
returns-clause-counting c = search (rules, skipping)
