use Rattle.output.proofs.Putting.{putting}
use borrow.Author.Rules.{rules}
use Rattle.output.proofs.put_two.Statement.{statement}
use Rattle.output.proofs.put_two.Tie as tie

pub put_two_spec : {M : Type 1} → statement M
put_two_spec = tie.close (tie.spec
    (λ c. search rules)  -- slice-write-out
    (λ c. search rules)  -- slice-write-out-2
    (λ c. search rules)  -- same-length
    (λ c. search putting))  -- returns
