use Rattle.output.proofs.Putting.{trying}
use borrow.Author.Rules.{rules}
use Rattle.output.proofs.try_number.Statement.{statement}
use Rattle.output.proofs.try_number.Tie as tie

pub try_number_spec : {M : Type 1} → statement M
try_number_spec = tie.close (tie.spec
    (λ c. search trying)  -- returns
    (λ c κs. search rules)  -- put-number-requires
    (λ c. search rules)  -- same-length
    (λ c. search trying))  -- returns-2
