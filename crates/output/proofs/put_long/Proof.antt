use Rattle.output.proofs.Putting.{putting}
use borrow.Author.Rules.{rules}
use Rattle.output.proofs.put_long.Statement.{statement}
use Rattle.output.proofs.put_long.Tie as tie

pub put_long_spec : {M : Type 1} → statement M
put_long_spec = tie.close (tie.spec
    (λ c κs. search rules)  -- put-one-requires
    (λ c. search rules)  -- sub-put-counted
    (λ c. search rules)  -- part-put-counted-start
    (λ c. search rules)  -- part-put-counted-end
    (λ c κs. search rules)  -- put-counted-requires
    (λ c. search rules)  -- add-result
    (λ c. search rules)  -- same-length
    (λ c. search putting))  -- returns
