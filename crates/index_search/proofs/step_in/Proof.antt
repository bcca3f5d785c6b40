use Rattle.index_search.proofs.Stepping.{stepping}
use borrow.Author.Rules.{rules}
use Rattle.index_search.proofs.step_in.Statement.{statement}
use Rattle.index_search.proofs.step_in.Tie as tie

pub step_in_spec : {M : Type 1} → statement M
step_in_spec = tie.close (tie.spec
    (λ c κs. search rules)  -- relation-to-requires
    (λ c. search rules)  -- enum-told
    (λ c. search rules)  -- add-between
    (λ c κs. search rules)  -- between-requires
    (λ c. search rules)  -- enum-told-2
    (λ c κs. search rules)  -- verify-requires
    (λ c. search rules)  -- enum-told-3
    (λ c κs. search rules)  -- between-requires-2
    (λ c. search stepping)  -- returns
    (λ c. search stepping)  -- returns-2
    (λ c. search stepping))  -- returns-3
