use Rattle.index_search.proofs.Stepping.{asking}
use borrow.Author.Rules.{rules}
use Rattle.index_search.proofs.start_of.Statement.{statement}
use Rattle.index_search.proofs.start_of.Tie as tie

pub start_of_spec : {M : Type 1} → statement M
start_of_spec = tie.close (tie.spec
    (λ c. search asking)  -- returns
    (λ c. search rules)  -- sub-number-at
    (λ c κs. search rules)  -- number-at-requires
    (λ c. search asking))  -- returns-2
