use Rattle.keys.proofs.Chaining.{noting}
use Rattle.keys.proofs.text_of.Goals as goal

pub returns : goal.returns
returns c = search noting
