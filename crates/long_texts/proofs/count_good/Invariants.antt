use Rattle.std.proofs.Common.{◌≡◌, length}
use Rattle.draft.specs.Table.{row_at}
use Rattle.long_texts.proofs.Finding.{Going}
use Rattle.long_texts.proofs.count_good.Given as goal

abbrev pub invariant-loop-r : goal.invariant-loop-r
invariant-loop-r l = Going (row_at l.room l.table) l.text l.notes l.r × (length l.notes ≡ length l.fn.notes)
