use Rattle.draft.specs.Table.{row_at}
use Rattle.member.proofs.Finding.{Left}
use Rattle.member.proofs.find_from.Given as goal

abbrev pub invariant-loop : goal.invariant-loop
invariant-loop l = Left (row_at l.room l.table) l.rows l.text l.key l.n l.first l.counter l.here
