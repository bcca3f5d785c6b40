use Rattle.spread.proofs.Mixing.{mixing}
use borrow.Author.Rules.{rules}
use Rattle.spread.proofs.mix_three.Statement.{statement}
use Rattle.spread.proofs.mix_three.Tie as tie

pub mix_three_spec : {M : Type 1} → statement M
mix_three_spec = tie.close (tie.spec
    (λ c. search rules)  -- sub-m
    (λ c κs. search rules)  -- four-requires
    (λ c. search rules)  -- mul-result
    (λ c κs. search rules)  -- four-requires-2
    (λ c. search rules)  -- mul-result-2
    (λ c. search rules)  -- add-result
    (λ c κs. search rules)  -- four-requires-3
    (λ c. search rules)  -- mul-result-3
    (λ c. search rules)  -- add-result-2
    (λ c. (search mixing, search mixing)))  -- returns
