use Rattle.std.proofs.Common.{rules}
use Rattle.passages.proofs.Passing.{passing}
use Rattle.passages.proofs.check.Goals as goal

pub returns-then-not-is_utf8 : goal.returns-then-not-is_utf8
returns-then-not-is_utf8 c = search (rules, passing)
