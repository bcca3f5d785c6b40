use Rattle.spread.proofs.Mixing.{mixing}
use Rattle.spread.proofs.is_short.Statement.{statement}
use Rattle.spread.proofs.is_short.Tie as tie

pub is_short_spec : {M : Type 1} → statement M
is_short_spec = tie.close (tie.spec
    (λ c. search mixing))  -- returns
