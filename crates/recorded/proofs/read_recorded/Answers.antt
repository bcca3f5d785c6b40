use Rattle.std.proofs.Common.{rules, ◌≡◌, Ok, Err, ℕ, ◌+◌, ◌<◌, arith}
use Rattle.item.proofs.Readings.{passed}
use Rattle.item.proofs.Items.{leaves}
use Rattle.recorded.proofs.read_recorded.Goals as goal

six : (n : ℕ) → 0 < n + 6
six n = omega arith

pub returns-in_err-reached : goal.returns-in_err-reached
returns-in_err-reached c = let w : c.put_contents.result ≡ Err c.in_err-reached.field-0.0 = c.in_err-reached.was in
    let p : c.from_residual.result ≡ Err c.in_err-reached.field-0.0 = passed _ c.from_residual.ensures.1 in
    search leaves

pub record-requires : goal.record-requires
record-requires c = let w : c.put_contents.result ≡ Ok c.in_ok-reached.reached = c.in_ok-reached.was in (search rules, search leaves, search (leaves, six), search rules)
