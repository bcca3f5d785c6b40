use Rattle.std.proofs.Common.{◌≡◌, ◌+◌, ◌*◌, length}
use Rattle.draft.specs.Table.{row_at}
use Rattle.draft.specs.Writable.{value}
use Rattle.containers.proofs.Items.{Going}
use Rattle.containers.proofs.+walk_contents_walk_items.Given as goal

abbrev pub decreases-walk_contents : goal.decreases-walk_contents
decreases-walk_contents l = 2 * l.deep

abbrev pub decreases-walk_items : goal.decreases-walk_items
decreases-walk_items l = 2 * l.deep + 1

abbrev pub invariant-walk_items-loop-i : goal.invariant-walk_items-loop-i
invariant-walk_items-loop-i l = record {
  going : Going l.text l.room l.rows l.table l.keyed (value (row_at l.room l.table) l.rows l.text l.deep) l.n l.first l.fn.notes l._i l.here l.notes;
  same : length l.notes ≡ length l.fn.notes;
}
