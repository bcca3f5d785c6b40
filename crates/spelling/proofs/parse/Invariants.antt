use Rattle.spelling.proofs.Parsing.{Parsing}
use Rattle.spelling.proofs.parse.Given as goal

abbrev pub invariant-loop-b : goal.invariant-loop-b
invariant-loop-b l = Parsing l.word l.b-index l.value
