use Rattle.std.proofs.Common.{◌≡◌, ◌+◌, ◌-◌, ◌*◌, ◌≤◌, length, Ok}
use Rattle.glyph.specs.Read.{object}
use Rattle.glyph_keys.specs.Contract.{Done}
use Rattle.glyph_objects.proofs.Running.{Going}
use Rattle.glyph_objects.proofs.Ending.{parts}
use Rattle.glyph_objects.proofs.+objects.Given as goal

abbrev pub decreases-read_object : goal.decreases-read_object
decreases-read_object l = 4 * l.deep

abbrev pub decreases-read_next : goal.decreases-read_next
decreases-read_next l = 4 * l.deep + 1

abbrev pub decreases-read_thing : goal.decreases-read_thing
decreases-read_thing l = 4 * l.deep + 1

abbrev pub decreases-read_entry : goal.decreases-read_entry
decreases-read_entry l = 4 * l.deep + 2

abbrev pub decreases-read_many : goal.decreases-read_many
decreases-read_many l = 4 * l.deep + 3

abbrev pub decreases-read_three : goal.decreases-read_three
decreases-read_three l = 4 * l.deep + 2

abbrev pub invariant-read_many-loop-edition : goal.invariant-read_many-loop-edition
invariant-read_many-loop-edition l =
    Going l.s l.room l.edition l.deep l.many l.initial.here l.row l.initial.table l.initial.notes l.n l.here l.free l.table l.notes
    × (length l.table ≡ length l.initial.table) × (length l.notes ≡ length l.initial.notes)

abbrev pub decreases-read_many-loop-edition : goal.decreases-read_many-loop-edition
decreases-read_many-loop-edition l = length l.s - l.here

abbrev pub invariant-read_three-loop-want : goal.invariant-read_three-loop-want
invariant-read_three-loop-want l =
    Done (parts l.s (object l.s l.room l.edition l.deep) l.three l.at l.row l.want-index) l.s l.room (l.at + 1) (l.row + 1) l.initial.table l.table l.initial.notes l.notes (Ok l.reached)
    × (length l.table ≡ length l.initial.table) × (length l.notes ≡ length l.initial.notes)
