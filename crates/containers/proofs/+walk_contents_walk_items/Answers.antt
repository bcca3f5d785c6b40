use Rattle.std.proofs.Common.{rules, refl}
use Rattle.containers.proofs.Items.{walked}
use Rattle.containers.proofs.+walk_contents_walk_items.Goals as goal
use Rattle.containers.proofs.+walk_contents_walk_items.Goals.{walk_items-in-Integer+in_ok-here-in-Integer, walk_items-in-Boolean+in_ok-here-in-Boolean, walk_items-in-Content+in_ok-here-in-Content, walk_items-in-Other+in_ok-here-in-Other, walk_items-in-Array+in_ok-here-in-Array}

pub walk_contents-returns-then-deep-eq0 : goal.walk_contents-returns-then-deep-eq0
walk_contents-returns-then-deep-eq0 t c = search walked

pub walk_contents-walk_items-next-requires : goal.walk_contents-walk_items-next-requires
walk_contents-walk_items-next-requires t c = (search rules, search walked)

pub walk_contents-returns : goal.walk_contents-returns
walk_contents-returns t c = search walked

pub walk_items-loop-i-init : goal.walk_items-loop-i-init
walk_items-loop-i-init t c = record { going = search walked; same = refl }

pub walk_items-walk_key_if-requires : goal.walk_items-walk_key_if-requires
walk_items-walk_key_if-requires t c = (search walked, search walked, search walked)

pub walk_items-returns-in_err-at : goal.walk_items-returns-in_err-at
walk_items-returns-in_err-at t c = search (walked, c.in_err-at.ensures)

pub walk_items-returns-then-rows-at : goal.walk_items-returns-then-rows-at
walk_items-returns-then-rows-at t c = search (walked, c.in_ok-at.ensures)

pub walk_items-walk_contents-requires : goal.walk_items-walk_contents-requires
walk_items-walk_contents-requires t c = (search rules, (search (walked, c.in-Array.is), search walked, search (walked, c.in_ok-at.ensures)))

pub walk_items-returns-in_err-here-in-Integer : goal.walk_items-returns-in_err-here-in-Integer
walk_items-returns-in_err-here-in-Integer t c = search (walked, c.in_ok-at.ensures, c.in_err-here-in-Integer.ensures)

pub walk_items-returns-in_err-here-in-Boolean : goal.walk_items-returns-in_err-here-in-Boolean
walk_items-returns-in_err-here-in-Boolean t c = search (walked, c.in_ok-at.ensures, c.in_err-here-in-Boolean.ensures)

pub walk_items-returns-in_err-here-in-Content : goal.walk_items-returns-in_err-here-in-Content
walk_items-returns-in_err-here-in-Content t c = search (walked, c.in_ok-at.ensures, c.in_err-here-in-Content.ensures)

pub walk_items-returns-in_err-here-in-Other : goal.walk_items-returns-in_err-here-in-Other
walk_items-returns-in_err-here-in-Other t c = search (walked, c.in_ok-at.ensures, c.in_err-here-in-Other.ensures)

pub walk_items-returns-in_err-here-in-Array : goal.walk_items-returns-in_err-here-in-Array
walk_items-returns-in_err-here-in-Array t c = search (walked, c.in_ok-at.ensures, c.in_err-here-in-Array.ensures)

pub walk_items-walk_content-requires : goal.walk_items-walk_content-requires
walk_items-walk_content-requires t c = (search rules, search walked)

pub walk_items-returns-in_default : goal.walk_items-returns-in_default
walk_items-returns-in_default t c = search (walked, c.in_ok-at.ensures)

pub walk_items-loop-i-preserved : goal.walk_items-loop-i-preserved
walk_items-loop-i-preserved t c =
    elim c.match-item_of.branch [
      | walk_items-in-Integer+in_ok-here-in-Integer w ↦ record { going = rw (w.here-is, w.notes-is) (search (walked, c.in_ok-at.ensures, w.in_ok-here-in-Integer.ensures)); same = search rules }
      | walk_items-in-Boolean+in_ok-here-in-Boolean w ↦ record { going = rw (w.here-is, w.notes-is) (search (walked, c.in_ok-at.ensures, w.in_ok-here-in-Boolean.ensures)); same = search rules }
      | walk_items-in-Content+in_ok-here-in-Content w ↦ record { going = rw (w.here-is, w.notes-is) (search (walked, c.in_ok-at.ensures, w.in_ok-here-in-Content.ensures)); same = search rules }
      | walk_items-in-Other+in_ok-here-in-Other w ↦ record { going = rw (w.here-is, w.notes-is) (search (walked, c.in_ok-at.ensures, w.in_ok-here-in-Other.ensures)); same = search rules }
      | walk_items-in-Array+in_ok-here-in-Array w ↦ record { going = rw (w.here-is, w.notes-is) (search (walked, c.in_ok-at.ensures, w.in_ok-here-in-Array.ensures)); same = search rules }
    ]

pub walk_items-returns : goal.walk_items-returns
walk_items-returns t c = search walked
