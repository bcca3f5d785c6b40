use Rattle.std.proofs.Common.{rules, ◌≡◌, Ok, Err}
use Rattle.item.proofs.Readings.{passed}
use Rattle.item.proofs.Items.{others}
use Rattle.others.proofs.read_name.Goals as goal

pub returns-in_err-reached : goal.returns-in_err-reached
returns-in_err-reached c = let w : c.read_type.result ≡ Err c.in_err-reached.field-0.0 = c.in_err-reached.was in
    let p : c.from_residual.result ≡ Err c.in_err-reached.field-0.0 = passed _ c.from_residual.ensures.1 in
    search others

pub row_text-requires : goal.row_text-requires
row_text-requires c = let w : c.read_type.result ≡ Ok c.in_ok-reached.reached = c.in_ok-reached.was in (search others, search rules, search rules)

pub returns : goal.returns
returns c = let w : c.read_type.result ≡ Ok c.in_ok-reached.reached = c.in_ok-reached.was in search others
