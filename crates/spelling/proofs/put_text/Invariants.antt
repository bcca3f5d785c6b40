use Rattle.std.proofs.Common.{◌≡◌, length}
use Rattle.spelling.proofs.Putting.{Putting}
use Rattle.spelling.proofs.put_text.Given as goal

abbrev pub invariant-loop-b : goal.invariant-loop-b
invariant-loop-b l = Putting l.text l.fn.line l.at l.b-index l.line l.end × (length l.line ≡ length l.fn.line)
