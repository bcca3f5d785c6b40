use borrow.Author.Rules.{rules}
use Rattle.pieces.proofs.Piecing.{piecing}
use Rattle.pieces.proofs.take.Statement.{statement}
use Rattle.pieces.proofs.take.Tie as tie

pub take_spec : {M : Type 1} → statement M
take_spec = tie.close (tie.spec
    (λ c κs. search rules)  -- clear-requires
    (λ c. search rules)  -- same-length
    (λ c. search piecing)  -- returns
    (λ c. search rules)  -- enum-known-state
    (λ c κs. (search rules, search piecing))  -- go-on-requires
    (λ c. search rules)  -- enum-known-state-2
    (λ c. search rules)  -- enum-known-state-3
    (λ c. search rules)  -- same-length-2
    (λ c. search rules)  -- same-length-3
    (λ c. search piecing)  -- returns-2
    (λ c. search piecing)  -- returns-3
    (λ c. search piecing))  -- returns-4
