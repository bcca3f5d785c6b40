use borrow.Author.Rules.{rules}
use Rattle.pieces.proofs.Piecing.{piecing}
use Rattle.pieces.proofs.settle.Statement.{statement}
use Rattle.pieces.proofs.settle.Tie as tie

pub settle_spec : {M : Type 1} → statement M
settle_spec = tie.close (tie.spec
    (λ c κs. search rules)  -- read-again-requires
    (λ c. search rules)  -- enum-known-answer
    (λ c. search rules)  -- enum-known-answer-2
    (λ c κs. search rules)  -- number-requires
    (λ c κs. search rules)  -- wanted-of-requires
    (λ c κs. search rules)  -- still-requires
    (λ c. search rules)  -- same-length
    (λ c. search piecing)  -- returns
    (λ c. search rules)  -- same-length-2
    (λ c. search piecing)  -- returns-2
    (λ c. search rules)  -- same-length-3
    (λ c. search piecing))  -- returns-3
