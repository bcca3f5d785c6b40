use Rattle.std.proofs.Common.{◌+◌, ◌-◌}
use Rattle.draft.specs.Table.{row_at}
use Rattle.sorting.specs.Sorting.{key_text}
use Rattle.merging.proofs.Words.{Merging}
use Rattle.merging.proofs.merge_runs.Given as goal

abbrev pub invariant-loop-i : goal.invariant-loop-i
invariant-loop-i l = Merging (key_text l.room (row_at l.room l.table) l.text) l.half l.n l.z l.initial.words l.i l.j l.words

abbrev pub decreases-loop-i : goal.decreases-loop-i
decreases-loop-i l = (l.half + l.n) - (l.i + l.j)
