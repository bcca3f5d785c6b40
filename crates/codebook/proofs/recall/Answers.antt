use Rattle.codebook.proofs.Recording.{recording}
use Rattle.codebook.proofs.recall.Goals as goal

pub returns : goal.returns
returns c = search recording
