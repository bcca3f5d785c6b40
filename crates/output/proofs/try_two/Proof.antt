use Rattle.output.proofs.Putting.{trying}
use borrow.Author.Rules.{rules}
use Rattle.output.proofs.try_two.Statement.{statement}
use Rattle.output.proofs.try_two.Tie as tie

pub try_two_spec : {M : Type 1} → statement M
try_two_spec = tie.close (tie.spec
    (λ c. search trying)  -- returns
    (λ c κs. search rules)  -- put-two-requires
    (λ c. search rules)  -- same-length
    (λ c. search trying))  -- returns-2
