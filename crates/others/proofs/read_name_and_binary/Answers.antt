use Rattle.std.proofs.Common.{rules, ◌≡◌, Ok, Err}
use Rattle.item.proofs.Readings.{passed}
use Rattle.item.proofs.Items.{others}
use Rattle.others.proofs.read_name_and_binary.Goals as goal

pub returns-in_err-name : goal.returns-in_err-name
returns-in_err-name c = let w : c.read_name.result ≡ Err c.in_err-name.field-0.0 = c.in_err-name.was in
    let p : c.from_residual.result ≡ Err c.in_err-name.field-0.0 = passed _ c.from_residual.ensures.1 in
    search others

pub read_binary-requires : goal.read_binary-requires
read_binary-requires c = let w : c.read_name.result ≡ Ok c.in_ok-name.name = c.in_ok-name.was in record { within = search others; fits = search others; rows = search rules; table = search rules; message = search rules }

pub returns : goal.returns
returns c = let w : c.read_name.result ≡ Ok c.in_ok-name.name = c.in_ok-name.was in search others
