use Rattle.index_search.proofs.Stepping.{asking}
use borrow.Author.Rules.{rules}
use Rattle.index_search.proofs.question_at.Statement.{statement}
use Rattle.index_search.proofs.question_at.Tie as tie

pub question_at_spec : {M : Type 1} → statement M
question_at_spec = tie.close (tie.spec
    (λ c κs. search rules)  -- start-of-requires
    (λ c κs. search rules)  -- number-at-requires
    (λ c κs. search rules)  -- difference-requires
    (λ c. search asking))  -- returns
