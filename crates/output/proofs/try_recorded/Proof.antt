use Rattle.output.proofs.Putting.{trying}
use borrow.Author.Rules.{rules}
use Rattle.output.proofs.try_recorded.Statement.{statement}
use Rattle.output.proofs.try_recorded.Tie as tie

pub try_recorded_spec : {M : Type 1} → statement M
try_recorded_spec = tie.close (tie.spec
    (λ c. search rules)  -- add-if1
    (λ c. search rules)  -- add-result
    (λ c. search trying)  -- returns
    (λ c κs. search rules)  -- put-recorded-requires
    (λ c. search rules)  -- same-length
    (λ c. search trying))  -- returns-2
