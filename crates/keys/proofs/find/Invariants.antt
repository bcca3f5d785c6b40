use Rattle.keys.specs.Notes.{named, Ahead}
use Rattle.keys.proofs.find.Given as goal

abbrev pub invariant-loop-c : goal.invariant-loop-c
invariant-loop-c l = Ahead (named l.s l.room l.table) l.notes l.owner l.row l.c l.key

abbrev pub decreases-loop-c : goal.decreases-loop-c
decreases-loop-c l = l.c
