use Rattle.scalar.proofs.Words.{words}
use Rattle.scalar.proofs.step_of.Goals as goal

pub returns-then-number-ne0 : goal.returns-then-number-ne0
returns-then-number-ne0 c = search words

pub returns : goal.returns
returns c = search words
