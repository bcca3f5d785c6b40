use Rattle.std.proofs.Common.{sym, ◌∙◌, arith}
use Rattle.spelling.proofs.Parsing.{no_digit, digit_over, digit_added}
use Rattle.spelling.proofs.with_digit.Goals as goal

pub returns-then-not-is_ascii_digit : goal.returns-then-not-is_ascii_digit
returns-then-not-is_ascii_digit c = no_digit c.args.value c.args.b (sym c.is_ascii_digit.ensures.value ∙ c.if-not-is_ascii_digit.true)

pub returns-in_err-checked_mul : goal.returns-in_err-checked_mul
returns-in_err-checked_mul c =
    c.from_residual.ensures
    ∙ digit_over c.args.value c.args.b (sym c.is_ascii_digit.ensures.value ∙ c.if-not-is_ascii_digit.false) (λ h. c.in_err-checked_mul.ensures (omega arith))

pub returns : goal.returns
returns c = digit_added c.args.value c.args.b (sym c.is_ascii_digit.ensures.value ∙ c.if-not-is_ascii_digit.false) c.checked_add.result (c.in_ok-checked_mul.ensures.1) c.checked_add.ensures
