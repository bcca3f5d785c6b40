use Rattle.index_search.proofs.Stepping.{judged}
use borrow.Author.Rules.{rules}
use Rattle.index_search.proofs.step.Statement.{statement}
use Rattle.index_search.proofs.step.Tie as tie

pub step_spec : {M : Type 1} → statement M
step_spec = tie.close (tie.spec
    (λ c κs. search rules)  -- room-of-requires
    (λ c κs. search rules)  -- part-requires
    (λ c κs. (search judged, search judged, search judged, search rules))  -- step-in-requires
    (λ c. search judged))  -- returns
