use Rattle.draft.specs.Table.{row_at}
use Rattle.buckets.specs.Numbered.{numbered_text}
use Rattle.plans.proofs.Judging.{Taking}
use Rattle.plans.proofs.taken.Given as goal

abbrev pub invariant-loop-j : goal.invariant-loop-j
invariant-loop-j l = Taking (numbered_text (row_at l.room l.table) l.strings l.text) l.plan l.count l.book l.j
