use Rattle.draft.specs.Table.{row_at}
use Rattle.member.proofs.Counting.{Seeking}
use Rattle.member.proofs.is_among.Given as goal

abbrev pub invariant-loop : goal.invariant-loop
invariant-loop l = Seeking (row_at l.room l.table) l.rows l.m l.n l.first l.counter l.here
