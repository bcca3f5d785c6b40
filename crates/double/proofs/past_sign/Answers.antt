use Rattle.std.proofs.Common.{rules}
use Rattle.double.proofs.Passing.{signing}
use Rattle.double.proofs.past_sign.Goals as goal

pub returns-in-Some : goal.returns-in-Some
returns-in-Some c = search (rules, signing)

pub returns-in_default : goal.returns-in_default
returns-in_default c = search (rules, signing)

pub returns-in_default-2 : goal.returns-in_default-2
returns-in_default-2 c = search (rules, signing)
