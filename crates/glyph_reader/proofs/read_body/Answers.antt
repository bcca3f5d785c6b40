use Rattle.std.proofs.Common.{rules, ◌≡◌, Ok, Err}
use Rattle.glyph_item.proofs.Readings.{passed}
use Rattle.glyph_reader.proofs.Messages.{whole}
use Rattle.glyph_reader.proofs.read_body.Goals as goal

pub returns-in_err-end : goal.returns-in_err-end
returns-in_err-end c =
    let was : c.read_root.result ≡ Err c.in_err-end.field-0.0 = c.in_err-end.was in
    let same : c.from_residual.result ≡ Err c.in_err-end.field-0.0 = passed _ c.from_residual.ensures.1 in
    search whole

pub past_blanks-after-requires : goal.past_blanks-after-requires
past_blanks-after-requires c =
    let was : c.read_root.result ≡ Ok c.in_ok-end.end = c.in_ok-end.was in
    search whole

pub returns-then-after-s : goal.returns-then-after-s
returns-then-after-s c =
    let was : c.read_root.result ≡ Ok c.in_ok-end.end = c.in_ok-end.was in
    search whole

pub returns : goal.returns
returns c =
    let was : c.read_root.result ≡ Ok c.in_ok-end.end = c.in_ok-end.was in
    search whole
