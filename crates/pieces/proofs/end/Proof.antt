use borrow.Author.Rules.{rules}
use Rattle.pieces.proofs.Piecing.{piecing}
use Rattle.pieces.proofs.end.Statement.{statement}
use Rattle.pieces.proofs.end.Tie as tie

pub end_spec : {M : Type 1} → statement M
end_spec = tie.close (tie.spec
    (λ c κs. search rules)  -- allowed-requires
    (λ c κs. search piecing)  -- close-requires
    (λ c. search rules)  -- same-length
    (λ c. search rules)  -- returns
    (λ c κs. search rules)  -- clear-requires
    (λ c. search rules)  -- same-length
    (λ c. search piecing))  -- returns-2
