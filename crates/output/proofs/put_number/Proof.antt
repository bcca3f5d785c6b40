use Rattle.output.proofs.Putting.{putting}
use borrow.Author.Rules.{rules}
use Rattle.output.proofs.put_number.Statement.{statement}
use Rattle.output.proofs.put_number.Tie as tie

pub put_number_spec : {M : Type 1} → statement M
put_number_spec = tie.close (tie.spec
    (λ c κs. search rules)  -- put-one-requires
    (λ c. search rules)  -- sub-put-four
    (λ c. search rules)  -- part-put-four-start
    (λ c. search rules)  -- part-put-four-end
    (λ c κs. search rules)  -- put-four-requires
    (λ c. search rules)  -- same-length
    (λ c. search putting))  -- returns
