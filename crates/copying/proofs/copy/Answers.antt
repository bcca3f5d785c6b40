use Rattle.copying.proofs.Copying.{copying}
use Rattle.copying.proofs.copy.Goals as goal

pub returns : goal.returns
returns c = search copying
