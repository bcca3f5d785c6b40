use Rattle.std.proofs.Common.{rules, ◌∙◌}
use Rattle.text.proofs.Comparing.{comparing}
use Rattle.names.proofs.Eights.{bytes_same}
use Rattle.names.proofs.equal.Goals as goal

pub returns-then-a-b : goal.returns-then-a-b
returns-then-a-b c = search (rules, comparing)

pub returns : goal.returns
returns c = c.eq.ensures ∙ bytes_same c.args.a.now c.args.b.now
