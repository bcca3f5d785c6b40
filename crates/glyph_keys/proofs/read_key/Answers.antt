use Rattle.std.proofs.Common.{rules, ◌≡◌, Ok, Err}
use Rattle.glyph_item.proofs.Readings.{passed}
use Rattle.glyph_keys.proofs.Keying.{keying, key_refused, key_new}
use Rattle.glyph_keys.proofs.read_key.Goals as goal

pub returns-in_err-key : goal.returns-in_err-key
returns-in_err-key c = key_refused _ _ _ c.read_name.ensures c.in_err-key.was (passed _ c.from_residual.ensures.1)

pub note-requires : goal.note-requires
note-requires c =
    let was : c.read_name.result ≡ Ok c.in_ok-key.key = c.in_ok-key.was in
    (search (keying, rules), search keying, search keying)

pub returns-then-note : goal.returns-then-note
returns-then-note c =
    let was : c.read_name.result ≡ Ok c.in_ok-key.key = c.in_ok-key.was in
    search keying

pub returns : goal.returns
returns c =
    let was : c.read_name.result ≡ Ok c.in_ok-key.key = c.in_ok-key.was in
    search (key_new, c.if-note.false, c.note.ensures)
