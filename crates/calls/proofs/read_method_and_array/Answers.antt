use Rattle.std.proofs.Common.{rules, ◌≡◌, Ok, Err}
use Rattle.item.proofs.Readings.{passed}
use Rattle.calls.proofs.Calling.{calling}
use Rattle.calls.proofs.read_method_and_array.Goals as goal

pub returns-in_err-method : goal.returns-in_err-method
returns-in_err-method c = let w : c.read_string.result ≡ Err c.in_err-method.field-0.0 = c.in_err-method.was in
    let p : c.from_residual.result ≡ Err c.in_err-method.field-0.0 = passed _ c.from_residual.ensures.1 in
    search calling

pub read_array_only-requires : goal.read_array_only-requires
read_array_only-requires c = let w : c.read_string.result ≡ Ok c.in_ok-method.method = c.in_ok-method.was in (record { fitting = record { within = search calling; fits = search calling; rows = search rules; table = search rules; message = search rules }; book = search rules }, search calling, search rules)

pub returns : goal.returns
returns c = let w : c.read_string.result ≡ Ok c.in_ok-method.method = c.in_ok-method.was in search calling
