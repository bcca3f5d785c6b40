use Rattle.index_search.proofs.Stepping.{relating}
use borrow.Author.Rules.{rules}
use Rattle.index_search.proofs.relation_to.Statement.{statement}
use Rattle.index_search.proofs.relation_to.Tie as tie

pub relation_to_spec : {M : Type 1} → statement M
relation_to_spec = tie.close (tie.spec
    (λ c. search relating)  -- returns
    (λ c. search rules)  -- cast-key-text
    (λ c κs. search rules)  -- key-text-requires
    (λ c κs. search rules)  -- compare-requires
    (λ c. search relating))  -- returns-2
