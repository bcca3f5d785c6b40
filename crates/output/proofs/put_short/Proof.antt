use Rattle.output.proofs.Putting.{putting}
use borrow.Author.Rules.{rules}
use Rattle.output.proofs.put_short.Statement.{statement}
use Rattle.output.proofs.put_short.Tie as tie

pub put_short_spec : {M : Type 1} → statement M
put_short_spec = tie.close (tie.spec
    (λ c. search rules)  -- cast-put-two
    (λ c κs. search rules)  -- put-two-requires
    (λ c. search rules)  -- sub-copy
    (λ c. search rules)  -- part-copy-start
    (λ c. search rules)  -- part-copy-end
    (λ c κs. search rules)  -- copy-requires
    (λ c. search rules)  -- add-result
    (λ c. search rules)  -- same-length
    (λ c. search putting))  -- returns
