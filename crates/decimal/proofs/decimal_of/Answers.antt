use Rattle.std.proofs.Common.{rules, arith, ◌∙◌}
use Rattle.decimal.proofs.Valuing.{valuing, refused, many_digits, gathered_none, gathered_some, valued}
use Rattle.decimal.proofs.decimal_of.Goals as goal

pub returns-then-k-gt22 : goal.returns-then-k-gt22
returns-then-k-gt22 c = search (rules, valuing)

pub returns-in_err-n : goal.returns-in_err-n
returns-in_err-n c = refused c.from_residual.result c.from_residual.ensures.0 ∙ many_digits c.args.s.now c.places-k.ensures c.past_zeros.ensures.counting c.gather.ensures (gathered_none c.gather.result c.in_err-n.ensures.value)

pub quotient-requires : goal.quotient-requires
quotient-requires c = search (rules, valuing)

pub returns : goal.returns
returns c = valued c.args.s.now c.places-k.ensures c.past_zeros.ensures.counting c.gather.ensures (omega arith) (gathered_some c.gather.result c.in_ok-n.ensures.value) c.is_negative.ensures c.quotient.ensures c.signed.ensures
