use Rattle.std.proofs.Common.{◌≡◌, length}
use Rattle.draft.specs.Table.{row_at}
use Rattle.sending.proofs.Collecting.{Collecting}
use Rattle.sending.proofs.collect.Given as goal

abbrev pub invariant-loop-r : goal.invariant-loop-r
invariant-loop-r l = Collecting (row_at l.room l.table) l.rows l.strings l.r l.n × (length l.strings ≡ length l.initial.strings)
