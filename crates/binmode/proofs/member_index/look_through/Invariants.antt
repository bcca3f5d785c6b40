-- The search is so many steps from its end, and comes to what it is to find.
use Rattle.std.proofs.Common.{ℕ, ◌≡◌}
use Rattle.seeking.proofs.Narrowing.{span}
use Rattle.index_search.proofs.Looking.{Looking}
use Rattle.binmode.proofs.member_index.look_through.Given as goal

abbrev pub invariant-loop-at : goal.invariant-loop-at
invariant-loop-at l = record {
  left : ℕ;
  looking : Looking l.table l.text l.keys l.question l.list left l.st;
  at : l.at ≡ l.st.at;
}

abbrev pub decreases-loop-at : goal.decreases-loop-at
decreases-loop-at l = span l.st
