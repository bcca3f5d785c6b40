-- i reports are stored, and the rest is as the loop will store it.
use Rattle.std.proofs.Common.{ℕ, ◌≡◌, ◌-◌, ◌≤◌, length}
use Rattle.draft.specs.Table.{from}
use Rattle.lookup_answer.specs.Reports.{report_of}
use Rattle.index.proofs.Storing.{stored}
use Rattle.index_search.specs.Through.{through, key_at}
use Rattle.binmode.proofs.member_index.binmode_index_find.Given as goal

abbrev pub invariant-loop-i : goal.invariant-loop-i
invariant-loop-i l = record {
  within : l.i ≤ length l.initial.reports;
  comes : stored (λ (k : ℕ). report_of (through l.table l.rows l.text l.row l.list (key_at l.keys l.ends k))) l.i (length l.initial.reports - l.i) l.reports
      ≡ from (λ (k : ℕ). report_of (through l.table l.rows l.text l.row l.list (key_at l.keys l.ends k))) 0 (length l.initial.reports);
}

abbrev pub decreases-loop-i : goal.decreases-loop-i
decreases-loop-i l = length l.initial.reports - l.i
