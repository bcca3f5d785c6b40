use Rattle.index_search.proofs.Stepping.{relating}
use borrow.Author.Rules.{rules}
use Rattle.index_search.proofs.verify.Statement.{statement}
use Rattle.index_search.proofs.verify.Tie as tie

pub verify_spec : {M : Type 1} → statement M
verify_spec = tie.close (tie.spec
    (λ c κs. search rules)  -- is-member-requires
    (λ c κs. search rules)  -- ended-requires
    (λ c. search relating)  -- returns
    (λ c κs. search rules)  -- ended-requires-2
    (λ c. search relating))  -- returns-2
