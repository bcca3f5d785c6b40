use Rattle.content.proofs.Judging.{judging}
use borrow.Author.Rules.{rules}
use Rattle.content.proofs.part.Statement.{statement}
use Rattle.content.proofs.part.Tie as tie

pub part_spec : {M : Type 1} → statement M
part_spec = tie.close (tie.spec
    (λ c. search rules)  -- sub-result
    (λ c. search rules)  -- part-result-start
    (λ c. search rules)  -- part-result-end
    (λ c. search judging)  -- returns
    (λ c. search rules)  -- sub-rest
    (λ c. search rules)  -- part-rest-start
    (λ c. search rules)  -- part-rest-end
    (λ c. search judging)  -- returns-2
    (λ c. search rules)  -- sub-result-2
    (λ c. search rules)  -- part-result-start-2
    (λ c. search rules)  -- part-result-end-2
    (λ c. search judging))  -- returns-3
