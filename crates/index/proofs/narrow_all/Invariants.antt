use Rattle.std.proofs.Common.{get_or}
use Rattle.index.specs.Filling.{narrowed}
use Rattle.index.proofs.Storing.{Narrowing}
use Rattle.index.proofs.narrow_all.Given as goal

abbrev pub invariant-loop-i : goal.invariant-loop-i
invariant-loop-i l = Narrowing (λ j. narrowed (get_or l.words j 0)) l.initial.rows l.i l.rows
