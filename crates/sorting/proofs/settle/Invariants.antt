use Rattle.draft.specs.Table.{row_at}
use Rattle.sorting.specs.Sorting.{key_text}
use Rattle.sorting.proofs.Settling.{Settling}
use Rattle.sorting.proofs.settle.Given as goal

abbrev pub invariant-loop-i : goal.invariant-loop-i
invariant-loop-i l = Settling (key_text l.room (row_at l.room l.table) l.text) l.initial.rows l.first l.i l.rows
