use Rattle.draft.specs.Table.{row_at}
use Rattle.encoding.proofs.Running.{Running}
use Rattle.encoding.proofs.put_run.Given as goal

abbrev pub invariant-loop-r : goal.invariant-loop-r
invariant-loop-r l = Running (row_at l.room l.table) l.rows l.text l.first l.most l.initial.out l.r l.at l.out
