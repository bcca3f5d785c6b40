use Rattle.std.proofs.Common.{◌≡◌}
use Rattle.draft.specs.Table.{row_at}
use Rattle.member.proofs.Counting.{Counting}
use Rattle.member.proofs.count_from.Given as goal

abbrev pub invariant-loop : goal.invariant-loop
invariant-loop l = record { passed : l.c ≡ l.counter; left : Counting (row_at l.room l.table) l.rows l.n l.first l.counter l.here }
