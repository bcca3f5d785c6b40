use Rattle.draft.specs.Table.{row_at}
use Rattle.sorting.specs.Sorting.{key_text}
use Rattle.key_order.proofs.Arranging.{Counting}
use Rattle.key_order.proofs.is_over.Given as goal

abbrev pub invariant-loop-row : goal.invariant-loop-row
invariant-loop-row l = Counting (key_text l.room (row_at l.room l.table) l.text) l.most l.rows l.row-index l.left
