use Rattle.std.proofs.Common.{refl}
use Rattle.order.proofs.Comparing.{rank_of}
use Rattle.order.proofs.rank_at.Goals as goal

pub returns : goal.returns
returns c = rank_of c.args.s.now c.args.at c.requires refl refl refl refl refl refl refl refl c.from_be_bytes.ensures c.type_inv.s
