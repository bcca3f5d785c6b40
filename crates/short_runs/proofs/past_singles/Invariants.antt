use Rattle.text.specs.Runs.{Run}
use Rattle.short_runs.proofs.past_singles.Given as goal

abbrev pub invariant-loop-at : goal.invariant-loop-at
invariant-loop-at l = Run l.s l.from l.at
