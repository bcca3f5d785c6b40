use Rattle.std.proofs.Common.{rules}
use Rattle.decimal.proofs.Gathering.{pointing}
use Rattle.decimal.proofs.is_negative.Goals as goal

pub returns : goal.returns
returns c = search (rules, pointing)
