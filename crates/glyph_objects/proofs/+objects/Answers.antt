use Rattle.std.proofs.Common.{rules, ◌≡◌, refl, Ok, Err}
use Rattle.glyph.specs.declared.Want.TheVariants.{Text}
use Rattle.glyph_item.proofs.Readings.{passed}
use Rattle.glyph_objects.proofs.Objects.{objects}
use Rattle.glyph_objects.proofs.Running.{running}
use Rattle.glyph_objects.proofs.Entering.{entering, entry_stops, next_name}
use Rattle.glyph_objects.proofs.Ending.{ending, want_at, parts_again, parts_stops}
use Rattle.glyph_objects.proofs.+objects.Goals as goal

pub read_object-returns-then-s-at : goal.read_object-returns-then-s-at
read_object-returns-then-s-at t c = search objects

pub read_object-returns-in-Leaf : goal.read_object-returns-in-Leaf
read_object-returns-in-Leaf t c = search objects

pub read_object-returns-in-Unknown : goal.read_object-returns-in-Unknown
read_object-returns-in-Unknown t c = search objects

pub read_object-returns-then-deep-eq0 : goal.read_object-returns-then-deep-eq0
read_object-returns-then-deep-eq0 t c = search objects

pub read_object-returns-then-room-row : goal.read_object-returns-then-room-row
read_object-returns-then-room-row t c = search objects

pub read_object-returns-else-room-row : goal.read_object-returns-else-room-row
read_object-returns-else-room-row t c = search objects

pub read_object-returns-then-deep-eq0-2 : goal.read_object-returns-then-deep-eq0-2
read_object-returns-then-deep-eq0-2 t c = search objects

pub read_object-returns-then-room-row-2 : goal.read_object-returns-then-room-row-2
read_object-returns-then-room-row-2 t c = search objects

pub read_object-returns-else-room-row-2 : goal.read_object-returns-else-room-row-2
read_object-returns-else-room-row-2 t c = search objects

pub read_next-returns-then-eq : goal.read_next-returns-then-eq
read_next-returns-then-eq t c =
    let is : c.args.want ≡ Text = search rules in
    search entering

pub read_thing-returns-then-leaf_at : goal.read_thing-returns-then-leaf_at
read_thing-returns-then-leaf_at t c = search entering

pub read_entry-returns-in_err-key : goal.read_entry-returns-in_err-key
read_entry-returns-in_err-key t c =
    entry_stops _ _ c.read_key_if.ensures c.requires.0 c.requires.1 c.in_err-key.was (passed _ c.from_residual.ensures.1)

pub read_entry-read_thing-requires : goal.read_entry-read_thing-requires
read_entry-read_thing-requires t c =
    let was : c.read_key_if.result ≡ Ok c.in_ok-key.key = c.in_ok-key.was in
    (search rules, search (entering, rules))

pub read_entry-returns : goal.read_entry-returns
read_entry-returns t c =
    let was : c.read_key_if.result ≡ Ok c.in_ok-key.key = c.in_ok-key.was in
    search entering

pub read_many-loop-edition-init : goal.read_many-loop-edition-init
read_many-loop-edition-init t c = (search running, refl, refl)

pub read_many-returns-in_err-thing : goal.read_many-returns-in_err-thing
read_many-returns-in_err-thing t c =
    let was : c.read_entry.result ≡ Err c.in_err-thing.field-0.0 = c.in_err-thing.was in
    let same : c.from_residual.result ≡ Err c.in_err-thing.field-0.0 = passed _ c.from_residual.ensures.1 in
    search running

pub read_many-loop-edition-preserved : goal.read_many-loop-edition-preserved
read_many-loop-edition-preserved t c =
    let was : c.read_entry.result ≡ Ok c.in_ok-thing.thing = c.in_ok-thing.was in
    (search running, search rules, search rules)

pub read_many-returns : goal.read_many-returns
read_many-returns t c = search running

pub read_three-loop-want-init : goal.read_three-loop-want-init
read_three-loop-want-init t c = (search ending, refl, refl)

pub read_three-returns-in_err-reached : goal.read_three-returns-in_err-reached
read_three-returns-in_err-reached t c =
    let was : c.read_next.result ≡ Err c.in_err-reached.field-0.0 = c.in_err-reached.was in
    let same : c.from_residual.result ≡ Err c.in_err-reached.field-0.0 = passed _ c.from_residual.ensures.1 in
    parts_stops _ _ _ _ _ _ _ c.loop-want.invariant.0 c.read_next.ensures (search rules) (want_at _ _ _ c.name_want-name.ensures c.attributes_want-attributes.ensures (search rules)) was same

pub read_three-loop-want-preserved : goal.read_three-loop-want-preserved
read_three-loop-want-preserved t c =
    let was : c.read_next.result ≡ Ok c.in_ok-reached.reached = c.in_ok-reached.was in
    (parts_again _ _ _ _ _ _ _ c.loop-want.invariant.0 c.read_next.ensures was (want_at _ _ _ c.name_want-name.ensures c.attributes_want-attributes.ensures (search rules)), search rules, search rules)

pub read_three-returns : goal.read_three-returns
read_three-returns t c = search ending
