use Rattle.spread.proofs.Mixing.{mixing}
use borrow.Author.Rules.{rules}
use Rattle.spread.proofs.mix_five.Statement.{statement}
use Rattle.spread.proofs.mix_five.Tie as tie

pub mix_five_spec : {M : Type 1} → statement M
mix_five_spec = tie.close (tie.spec
    (λ c. search rules)  -- sub-m
    (λ c κs. search rules)  -- four-requires
    (λ c κs. search rules)  -- four-requires-2
    (λ c κs. search rules)  -- mix-requires
    (λ c κs. search rules)  -- four-requires-3
    (λ c κs. search rules)  -- mix-requires-2
    (λ c. search rules)  -- mul-four
    (λ c κs. search rules)  -- four-requires-4
    (λ c κs. search rules)  -- mix-requires-3
    (λ c κs. search rules)  -- four-requires-5
    (λ c κs. search rules)  -- mix-requires-4
    (λ c. (search mixing, search rules)))  -- returns
