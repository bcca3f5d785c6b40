use Rattle.std.proofs.Common.{rules}
use Rattle.passages.proofs.Passing.{passing}
use Rattle.passages.proofs.noted.Goals as goal

pub returns-then-entry-here : goal.returns-then-entry-here
returns-then-entry-here c = search (rules, passing)

pub returns : goal.returns
returns c = search (rules, passing)
