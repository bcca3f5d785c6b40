use Rattle.std.proofs.Common.{rules, ◌≡◌, Ok, Err}
use Rattle.glyph_item.proofs.Readings.{passed}
use Rattle.glyph_keys.proofs.Keying.{key_ifs, if_stops}
use Rattle.glyph_keys.proofs.read_key_if.Goals as goal

pub returns-then-not-keyed : goal.returns-then-not-keyed
returns-then-not-keyed c = search key_ifs

pub returns-in_err-key : goal.returns-in_err-key
returns-in_err-key c = if_stops c.if-not-keyed.false c.read_key.ensures c.in_err-key.was (passed _ c.from_residual.ensures.1)

pub past_blanks-next-requires : goal.past_blanks-next-requires
past_blanks-next-requires c =
    let was : c.read_key.result ≡ Ok c.in_ok-key.key = c.in_ok-key.was in
    search key_ifs

pub returns : goal.returns
returns c =
    let was : c.read_key.result ≡ Ok c.in_ok-key.key = c.in_ok-key.was in
    search key_ifs
