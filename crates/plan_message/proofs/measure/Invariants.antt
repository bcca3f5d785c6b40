use Rattle.draft.specs.Table.{row_at}
use Rattle.plan_message.proofs.Writing.{Measuring}
use Rattle.plan_message.proofs.measure.Given as goal

abbrev pub invariant-loop-r : goal.invariant-loop-r
invariant-loop-r l = Measuring (row_at l.room l.table) l.rows l.text l.strings l.plan l.r l.j l.sum
