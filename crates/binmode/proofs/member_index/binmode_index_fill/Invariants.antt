-- i entries are stored, and the rest is as the loop will store it.
use Rattle.std.proofs.Common.{ℕ, ◌≡◌, ◌-◌, ◌≤◌, length, get_or}
use Rattle.draft.specs.Table.{from}
use Rattle.index.specs.Filling.{entry_of}
use Rattle.index.proofs.Storing.{stored}
use Rattle.binmode.proofs.member_index.binmode_index_fill.Given as goal

abbrev pub invariant-loop-i : goal.invariant-loop-i
invariant-loop-i l = record {
  within : l.i ≤ length l.initial.list;
  comes : stored (λ (k : ℕ). entry_of (get_or l.order.rows k 0)) l.i (length l.initial.list - l.i) l.list
      ≡ from (λ (k : ℕ). entry_of (get_or l.order.rows k 0)) 0 (length l.initial.list);
}

abbrev pub decreases-loop-i : goal.decreases-loop-i
decreases-loop-i l = length l.initial.list - l.i
