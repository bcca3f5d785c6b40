use Rattle.std.proofs.Common.{rules, refl}
use Rattle.glyph_walks.proofs.Walks.{walks}
use Rattle.glyph_walks.proofs.+walk_container_walk_entries.Goals as goal
use Rattle.glyph_walks.proofs.+walk_container_walk_entries.Goals.{walk_container-then-deep-eq0-via-then-deep-eq0, walk_container-then-deep-eq0-via-else-deep-eq0+then-not-may_hold, walk_entries-then-holds+in_ok-here, walk_entries-else-holds+in_ok-here-2}

pub walk_container-returns-then-deep-eq0 : goal.walk_container-returns-then-deep-eq0
walk_container-returns-then-deep-eq0 t c =
    elim c.then-deep-eq0.branch [
      | walk_container-then-deep-eq0-via-then-deep-eq0 w ↦ search walks
      | walk_container-then-deep-eq0-via-else-deep-eq0+then-not-may_hold w ↦ search walks
    ]

pub walk_container-walk_entries-next-requires : goal.walk_container-walk_entries-next-requires
walk_container-walk_entries-next-requires t c = (search rules, search walks)

pub walk_container-returns : goal.walk_container-returns
walk_container-returns t c = search walks

pub walk_entries-loop-i-init : goal.walk_entries-loop-i-init
walk_entries-loop-i-init t c = record { going = search walks; same = refl }

pub walk_entries-walk_key_if-requires : goal.walk_entries-walk_key_if-requires
walk_entries-walk_key_if-requires t c = (search walks, search walks, search walks)

pub walk_entries-returns-in_err-at : goal.walk_entries-returns-in_err-at
walk_entries-returns-in_err-at t c = search (walks, c.in_err-at.ensures)

pub walk_entries-returns-then-rows-at : goal.walk_entries-returns-then-rows-at
walk_entries-returns-then-rows-at t c = search (walks, c.in_ok-at.ensures)

pub walk_entries-walk_container-requires : goal.walk_entries-walk_container-requires
walk_entries-walk_container-requires t c = (search rules, (search walks, search walks, search (walks, c.in_ok-at.ensures)))

pub walk_entries-returns-in_err-here : goal.walk_entries-returns-in_err-here
walk_entries-returns-in_err-here t c = search (walks, c.in_ok-at.ensures, c.in_err-here.ensures)

pub walk_entries-walk_leaf-requires : goal.walk_entries-walk_leaf-requires
walk_entries-walk_leaf-requires t c = (search walks, search walks)

pub walk_entries-returns-in_err-here-2 : goal.walk_entries-returns-in_err-here-2
walk_entries-returns-in_err-here-2 t c = search (walks, c.in_ok-at.ensures, c.in_err-here-2.ensures)

pub walk_entries-loop-i-preserved : goal.walk_entries-loop-i-preserved
walk_entries-loop-i-preserved t c =
    elim c.if-holds.branch [
      | walk_entries-then-holds+in_ok-here w ↦ record { going = rw (w.here-is, w.notes-is) (search (walks, c.in_ok-at.ensures, w.in_ok-here.ensures)); same = search rules }
      | walk_entries-else-holds+in_ok-here-2 w ↦ record { going = rw (w.here-is, w.notes-is) (search (walks, c.in_ok-at.ensures, w.in_ok-here-2.ensures)); same = search rules }
    ]

pub walk_entries-returns : goal.walk_entries-returns
walk_entries-returns t c = search walks
