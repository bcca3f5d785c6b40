use Rattle.std.proofs.Common.{◌+◌, ◌-◌, ◌*◌}
use Rattle.draft.specs.Table.{row_at}
use Rattle.glyph_puts.proofs.Puts.{Listing, Pairing, Ranks}
use Rattle.glyph_puts.proofs.+putting.Given as goal

abbrev pub decreases-put_container : goal.decreases-put_container
decreases-put_container l = 4 * l.deep

abbrev pub decreases-put_entries : goal.decreases-put_entries
decreases-put_entries l = 4 * l.deep + 1

abbrev pub decreases-put_pair : goal.decreases-put_pair
decreases-put_pair l = 4 * l.deep + 2

abbrev pub decreases-put_list : goal.decreases-put_list
decreases-put_list l = 4 * l.deep + 3

abbrev pub decreases-put_ordered : goal.decreases-put_ordered
decreases-put_ordered l = 4 * l.deep + 3

abbrev pub decreases-put_dict : goal.decreases-put_dict
decreases-put_dict l = 4 * l.deep + 3

abbrev pub invariant-put_entries-loop : goal.invariant-put_entries-loop
invariant-put_entries-loop l =
    Listing (row_at l.room l.table) l.room l.text l.edition l.deep l.n l.first l.most l.initial.out l.at l.initial.order (l.n - l.counter) l.here l.order l.out l.stop

abbrev pub invariant-put_ordered-loop : goal.invariant-put_ordered-loop
invariant-put_ordered-loop l =
    Pairing (row_at l.room l.table) l.room l.text l.edition l.deep l.n l.first l.most l.initial.out l.initial.stop l.initial.order (l.n - l.counter) l.here l.order l.out l.stop

abbrev pub invariant-put_dict-loop-i : goal.invariant-put_dict-loop-i
invariant-put_dict-loop-i l =
    Ranks (row_at l.room l.table) l.room l.text l.edition l.deep l.n l.most l.initial.out l.initial.stop l.initial.order l.i l.order l.out l.stop
