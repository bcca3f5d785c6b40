use Rattle.std.proofs.Common.{rules, ◌≡◌, refl, Ok, Err}
use Rattle.draft.proofs.Naming.{number_some}
use Rattle.item.proofs.Readings.{passed}
use Rattle.member_keys.proofs.Keying.{key_refused, key_rows_lem, key_entry, key_noted, key_again, key_new, key_alone}
use Rattle.member_keys.proofs.read_key.Goals as goal

pub returns-in_err-key : goal.returns-in_err-key
returns-in_err-key c = let p : c.from_residual.result ≡ Err c.in_err-key.field-0.0 = passed _ c.from_residual.ensures.1 in
    rw p (key_refused _ _ _ c.in_err-key.ensures (number_some _))

pub place-h-requires : goal.place-h-requires
place-h-requires c = (key_rows_lem _ _ c.in_ok-key.ensures refl c.requires.2 (search rules), key_entry _ _ c.in_ok-key.ensures refl c.requires.2 c.requires.0 c.requires.1)

pub note_in-requires : goal.note_in-requires
note_in-requires c = (key_rows_lem _ _ c.in_ok-key.ensures refl c.requires.2 (search rules), key_entry _ _ c.in_ok-key.ensures refl c.requires.2 c.requires.0 c.requires.1, key_noted _ _ c.in_ok-key.ensures refl c.requires.2, c.place-h.ensures)

pub returns-then-note_in : goal.returns-then-note_in
returns-then-note_in c = key_again _ _ c.in_ok-key.ensures refl c.requires.2 c.requires.0 c.note_in.ensures c.if-note_in.true c.refuse.ensures

pub returns-then-crowded : goal.returns-then-crowded
returns-then-crowded c = key_new _ _ c.in_ok-key.ensures refl c.requires.2 c.requires.0 c.note_in.ensures c.if-note_in.false

pub join-requires : goal.join-requires
join-requires c = (key_entry _ _ c.in_ok-key.ensures refl c.requires.2 c.requires.0 c.requires.1, c.place-h.ensures.inside)

pub returns : goal.returns
returns c = key_alone _ _ c.in_ok-key.ensures refl c.requires.2 c.requires.0 c.requires.1 c.place-h.ensures c.crowded.ensures c.if-crowded.false c.join.ensures
