use Rattle.index_search.proofs.Stepping.{answering}
use borrow.Author.Rules.{rules}
use Rattle.index_search.proofs.answer.Statement.{statement}
use Rattle.index_search.proofs.answer.Tie as tie

pub answer_spec : {M : Type 1} → statement M
answer_spec = tie.close (tie.spec
    (λ c. search answering)  -- returns
    (λ c. search rules)  -- cast-if3
    (λ c. search answering)  -- returns-2
    (λ c κs. search rules)  -- room-of-requires
    (λ c κs. (search answering, search answering, search answering))  -- row-answer-requires
    (λ c. search answering)  -- returns-3
    (λ c. search answering))  -- returns-4
