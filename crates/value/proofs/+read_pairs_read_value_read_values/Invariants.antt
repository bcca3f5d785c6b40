use Rattle.std.proofs.Common.{◌≡◌, true, false, ◌+◌, length, ℕ, ◌*◌}
use Rattle.draft.specs.Read.{value}
use Rattle.value.proofs.Keys.{Going}
use Rattle.value.proofs.+read_pairs_read_value_read_values.Given as goal

abbrev pub decreases-read_pairs : goal.decreases-read_pairs
decreases-read_pairs l = 2 * l.deep + 1

abbrev pub decreases-read_value : goal.decreases-read_value
decreases-read_value l = 2 * l.deep

abbrev pub decreases-read_values : goal.decreases-read_values
decreases-read_values l = 2 * l.deep + 1

abbrev pub invariant-read_pairs-loop-pairs : goal.invariant-read_pairs-loop-pairs
invariant-read_pairs-loop-pairs l =
    Going l.s true (value l.s l.room l.deep) l.n l.at l.row l.room l.fn.table l.fn.book l.fn.notes l.pairs l.next l.free l.table l.book l.notes × (length l.table ≡ length l.fn.table) × (length l.book ≡ length l.fn.book) × (length l.notes ≡ length l.fn.notes)

abbrev pub decreases-read_pairs-loop-pairs : goal.decreases-read_pairs-loop-pairs
decreases-read_pairs-loop-pairs l = l.pairs

abbrev pub invariant-read_values-loop-left : goal.invariant-read_values-loop-left
invariant-read_values-loop-left l =
    Going l.s false (value l.s l.room l.deep) l.n l.at l.row l.room l.fn.table l.fn.book l.fn.notes l.left l.next l.free l.table l.book l.notes × (length l.table ≡ length l.fn.table) × (length l.book ≡ length l.fn.book) × (length l.notes ≡ length l.fn.notes)

abbrev pub decreases-read_values-loop-left : goal.decreases-read_values-loop-left
decreases-read_values-loop-left l = l.left
