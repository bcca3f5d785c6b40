use Rattle.passages.proofs.Passing.{passing, placing}
use borrow.Author.Rules.{rules}
use Rattle.passages.proofs.pass.Statement.{statement}
use Rattle.passages.proofs.pass.Tie as tie

pub pass_spec : {M : Type 1} → statement M
pass_spec = tie.close (tie.spec
    (λ c κs. search rules)  -- noted-requires
    (λ c. search placing)  -- add-result
    (λ c. search rules)  -- same-length
    (λ c. search passing)  -- returns
    (λ c κs. search rules)  -- check-requires
    (λ c. search rules)  -- same-length-2
    (λ c. search rules))  -- returns-2
