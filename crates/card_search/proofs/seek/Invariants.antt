use Rattle.std.proofs.Common.{◌-◌, length}
use Rattle.card_search.proofs.Seeking.{Seeking}
use Rattle.card_search.proofs.seek.Given as goal

abbrev pub invariant-loop-at : goal.invariant-loop-at
invariant-loop-at l = Seeking l.file l.number l.before l.from l.cards l.at

abbrev pub decreases-loop-at : goal.decreases-loop-at
decreases-loop-at l = length l.file - l.at
