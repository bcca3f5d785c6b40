use Rattle.draft.specs.Table.{row_at}
use Rattle.index.proofs.Arranging.{Gathering}
use Rattle.index.proofs.gather.Given as goal

abbrev pub invariant-loop-c : goal.invariant-loop-c
invariant-loop-c l = Gathering (row_at l.room l.table) l.rows l.n l.first l.here l.c l.order
