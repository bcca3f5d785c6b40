use Rattle.output.proofs.Putting.{putting}
use borrow.Author.Rules.{rules}
use Rattle.output.proofs.put_counted.Statement.{statement}
use Rattle.output.proofs.put_counted.Tie as tie

pub put_counted_spec : {M : Type 1} → statement M
put_counted_spec = tie.close (tie.spec
    (λ c κs. search rules)  -- put-four-requires
    (λ c. search rules)  -- sub-copy
    (λ c. search rules)  -- part-copy-start
    (λ c. search rules)  -- part-copy-end
    (λ c κs. search rules)  -- copy-requires
    (λ c. search rules)  -- same-length
    (λ c. search putting))  -- returns
