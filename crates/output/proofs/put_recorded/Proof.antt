use Rattle.output.proofs.Putting.{putting}
use borrow.Author.Rules.{rules}
use Rattle.output.proofs.put_recorded.Statement.{statement}
use Rattle.output.proofs.put_recorded.Tie as tie

pub put_recorded_spec : {M : Type 1} → statement M
put_recorded_spec = tie.close (tie.spec
    (λ c κs. search rules)  -- put-two-requires
    (λ c. search rules)  -- sub-put-counted
    (λ c. search rules)  -- part-put-counted-start
    (λ c. search rules)  -- part-put-counted-end
    (λ c κs. search rules)  -- put-counted-requires
    (λ c. search rules)  -- add-result
    (λ c. search rules)  -- same-length
    (λ c. search putting))  -- returns
