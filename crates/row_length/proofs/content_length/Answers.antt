use Rattle.row_length.proofs.Lengths.{lengths}
use Rattle.row_length.proofs.content_length.Goals as goal

pub returns-in-Binary : goal.returns-in-Binary
returns-in-Binary c = search lengths
