use Rattle.output.proofs.Putting.{trying}
use borrow.Author.Rules.{rules}
use Rattle.output.proofs.try_one.Statement.{statement}
use Rattle.output.proofs.try_one.Tie as tie

pub try_one_spec : {M : Type 1} → statement M
try_one_spec = tie.close (tie.spec
    (λ c. search trying)  -- returns
    (λ c κs. search rules)  -- put-one-requires
    (λ c. search rules)  -- same-length
    (λ c. search trying))  -- returns-2
