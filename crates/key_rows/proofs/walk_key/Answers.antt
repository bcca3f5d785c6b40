use Rattle.std.proofs.Common.{rules}
use Rattle.key_rows.proofs.Keying.{keying}
use Rattle.key_rows.proofs.walk_key.Goals as goal

pub returns-in_err-next : goal.returns-in_err-next
returns-in_err-next c = search (keying, c.in_err-next.ensures)

pub place-h-requires : goal.place-h-requires
place-h-requires c = (search (keying, c.in_ok-next.ensures), search (keying, c.in_ok-next.ensures))

pub note_in-requires : goal.note_in-requires
note_in-requires c = (search (keying, c.in_ok-next.ensures), search (keying, c.in_ok-next.ensures), search rules, search rules)

pub returns-then-note_in : goal.returns-then-note_in
returns-then-note_in c = search (keying, c.in_ok-next.ensures)

pub returns-then-crowded : goal.returns-then-crowded
returns-then-crowded c = search (keying, c.in_ok-next.ensures)

pub join-requires : goal.join-requires
join-requires c = (search (keying, c.in_ok-next.ensures), search rules)

pub returns : goal.returns
returns c = search (keying, c.in_ok-next.ensures)
