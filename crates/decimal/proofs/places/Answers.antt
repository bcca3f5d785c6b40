use Rattle.std.proofs.Common.{rules}
use Rattle.decimal.proofs.Gathering.{pointing}
use Rattle.decimal.proofs.places.Goals as goal

pub returns-then-b-eq46 : goal.returns-then-b-eq46
returns-then-b-eq46 c = search (rules, pointing)

pub loop-i-preserved : goal.loop-i-preserved
loop-i-preserved c = search (rules, pointing)

pub returns : goal.returns
returns c = search (rules, pointing)
