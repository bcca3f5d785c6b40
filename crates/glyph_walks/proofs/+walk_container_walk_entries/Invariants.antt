use Rattle.std.proofs.Common.{◌≡◌, ◌+◌, ◌*◌, length}
use Rattle.draft.specs.Table.{row_at}
use Rattle.containers.proofs.Items.{Going}
use Rattle.glyph.specs.declared.Want.TheVariants.{Any}
use Rattle.glyph_form.specs.Writable.{object}
use Rattle.glyph_walks.proofs.+walk_container_walk_entries.Given as goal

abbrev pub decreases-walk_container : goal.decreases-walk_container
decreases-walk_container l = 2 * l.deep

abbrev pub decreases-walk_entries : goal.decreases-walk_entries
decreases-walk_entries l = 2 * l.deep + 1

abbrev pub invariant-walk_entries-loop-i : goal.invariant-walk_entries-loop-i
invariant-walk_entries-loop-i l = record {
  going : Going l.text l.room l.rows l.table l.keyed (object (row_at l.room l.table) l.rows l.text l.edition l.deep Any) l.n l.first l.fn.notes l._i l.here l.notes;
  same : length l.notes ≡ length l.fn.notes;
}
