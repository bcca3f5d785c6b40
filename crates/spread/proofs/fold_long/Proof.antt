use Rattle.spread.proofs.Mixing.{mixing}
use borrow.Author.Rules.{rules}
use Rattle.spread.proofs.fold_long.Statement.{statement}
use Rattle.spread.proofs.fold_long.Tie as tie

pub fold_long_spec : {M : Type 1} → statement M
fold_long_spec = tie.close (tie.spec
    (λ c κs. search rules)  -- fold-lanes-requires
    (λ c. search rules)  -- sub-four
    (λ c κs. search rules)  -- four-requires
    (λ c κs. search rules)  -- fold-requires
    (λ c. search rules)  -- sub-four-2
    (λ c κs. search rules)  -- four-requires-2
    (λ c κs. search rules)  -- fold-requires-2
    (λ c. search rules)  -- sub-four-3
    (λ c κs. search rules)  -- four-requires-3
    (λ c κs. search rules)  -- fold-requires-3
    (λ c. search rules)  -- sub-four-4
    (λ c κs. search rules)  -- four-requires-4
    (λ c κs. search rules)  -- fold-requires-4
    (λ c. (search mixing, search rules)))  -- returns
