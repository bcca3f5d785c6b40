use Rattle.lexical.specs.Digits.{digit}
use Rattle.digits.proofs.is_digit.Goals as goal

pub returns : goal.returns
unfolding digit
returns c = c.is_ascii_digit.ensures.value
