use Rattle.spread.proofs.Mixing.{short_least}
use Rattle.spread.proofs.mix_text.Goals as goal

pub mix_three-requires : goal.mix_three-requires
mix_three-requires c = short_least _ c.is_short.ensures c.if-is_short.true
