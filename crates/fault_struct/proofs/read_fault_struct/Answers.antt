use Rattle.std.proofs.Common.{rules, ◌≡◌, Ok, Err}
use Rattle.item.proofs.Readings.{passed}
use Rattle.fault_struct.proofs.Faults.{faults, fault_judged}
use Rattle.fault_struct.proofs.read_fault_struct.Goals as goal

pub returns-in_err-inside : goal.returns-in_err-inside
returns-in_err-inside c = let w : c.read_struct_only.result ≡ Err c.in_err-inside.field-0.0 = c.in_err-inside.was in
    let p : c.from_residual.result ≡ Err c.in_err-inside.field-0.0 = passed _ c.from_residual.ensures.1 in
    search faults

pub judge-verdict-requires : goal.judge-verdict-requires
judge-verdict-requires c = let w : c.read_struct_only.result ≡ Ok c.in_ok-inside.inside = c.in_ok-inside.was in (search rules, search faults, search rules, search rules)

pub returns : goal.returns
returns c = let w : c.read_struct_only.result ≡ Ok c.in_ok-inside.inside = c.in_ok-inside.was in fault_judged _ _ _ _ c.read_struct_only.ensures w c.requires.0.fitting.table c.judge-verdict.ensures c.judged.ensures
