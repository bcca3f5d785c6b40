use Rattle.std.proofs.Common.{length}
use Rattle.draft.specs.Table.{row_at}
use Rattle.key_order.proofs.Arranging.{Gathering}
use Rattle.key_order.proofs.gather.Given as goal

abbrev pub invariant-loop-row : goal.invariant-loop-row
invariant-loop-row l = Gathering (row_at l.room l.table) l.room (length l.initial.row-items) l.first l.row-index l.here l.row-items
