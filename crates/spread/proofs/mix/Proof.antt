use Rattle.spread.proofs.Mixing.{mixing}
use borrow.Author.Rules.{rules}
use Rattle.spread.proofs.mix.Statement.{statement}
use Rattle.spread.proofs.mix.Tie as tie

pub mix_spec : {M : Type 1} → statement M
mix_spec = tie.close (tie.spec
    (λ c. search rules)  -- add-result
    (λ c. search rules)  -- mul-result
    (λ c. (search mixing, search mixing)))  -- returns
