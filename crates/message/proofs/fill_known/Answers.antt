use Rattle.message.proofs.Filling.{filling}
use Rattle.message.proofs.fill_known.Goals as goal

pub returns-then-n-most : goal.returns-then-n-most
returns-then-n-most c = search filling

pub returns : goal.returns
returns c = search filling
