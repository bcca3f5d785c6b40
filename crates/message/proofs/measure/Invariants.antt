use Rattle.draft.specs.Table.{row_at}
use Rattle.message.proofs.Writing.{Measuring}
use Rattle.message.proofs.measure.Given as goal

abbrev pub invariant-loop-r : goal.invariant-loop-r
invariant-loop-r l = Measuring (row_at l.room l.table) l.rows l.text l.strings l.firsts l.spots l.r l.j l.sum
