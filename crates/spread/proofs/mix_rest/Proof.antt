use Rattle.spread.proofs.Mixing.{mixing}
use borrow.Author.Rules.{rules}
use Rattle.spread.proofs.mix_rest.Statement.{statement}
use Rattle.spread.proofs.mix_rest.Tie as tie

pub mix_rest_spec : {M : Type 1} → statement M
mix_rest_spec = tie.close (tie.spec
    (λ c κs. search rules)  -- few-requires
    (λ c κs. search rules)  -- mix-requires
    (λ c. (search mixing, search rules))  -- returns
    (λ c κs. search rules)  -- mix-five-requires
    (λ c. (search mixing, search rules))  -- returns-2
    (λ c κs. search rules)  -- fold-long-requires
    (λ c. (search mixing, search mixing)))  -- returns-3
