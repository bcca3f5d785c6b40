use Rattle.std.proofs.Common.{◌≡◌, length}
use Rattle.draft.specs.Table.{row_at}
use Rattle.buckets.specs.Numbered.{numbered_text}
use Rattle.prices.proofs.Pricing.{Going}
use Rattle.prices.proofs.price.Given as goal

abbrev pub invariant-loop-j : goal.invariant-loop-j
invariant-loop-j l = Going (numbered_text (row_at l.room l.table) l.strings l.text) l.prices l.marks l.count l.j l.least l.paid × (length l.marks ≡ length l.initial.marks)
