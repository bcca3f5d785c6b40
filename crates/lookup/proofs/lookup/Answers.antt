use Rattle.lookup.proofs.Looking.{looking}
use Rattle.lookup.proofs.lookup.Goals as goal

pub look-requires : goal.look-requires
look-requires c = (search looking, search looking, search looking)
