use Rattle.std.proofs.Common.{rules}
use Rattle.spelling.proofs.Parsing.{parsing}
use Rattle.spelling.proofs.parse.Goals as goal

pub returns-then-is_empty : goal.returns-then-is_empty
returns-then-is_empty c = search (rules, parsing)

pub loop-b-init : goal.loop-b-init
loop-b-init c = search (rules, parsing)

pub returns-in_err-value : goal.returns-in_err-value
returns-in_err-value c = search (rules, parsing)

pub loop-b-preserved : goal.loop-b-preserved
loop-b-preserved c = search (rules, parsing)

pub returns : goal.returns
returns c = search (rules, parsing)
