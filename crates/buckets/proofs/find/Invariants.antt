use Rattle.draft.specs.Table.{row_at}
use Rattle.buckets.specs.Chains.{Ahead}
use Rattle.buckets.specs.Numbered.{numbered_text}
use Rattle.buckets.proofs.find.Given as goal

abbrev pub invariant-loop-c : goal.invariant-loop-c
invariant-loop-c l = Ahead (numbered_text (row_at l.room l.table) l.strings l.text) l.j l.nexts l.c

abbrev pub decreases-loop-c : goal.decreases-loop-c
decreases-loop-c l = l.c
