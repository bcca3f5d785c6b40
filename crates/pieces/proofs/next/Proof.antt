use borrow.Author.Rules.{rules}
use Rattle.pieces.proofs.Piecing.{piecing}
use Rattle.pieces.proofs.next.Statement.{statement}
use Rattle.pieces.proofs.next.Tie as tie

pub next_spec : {M : Type 1} → statement M
next_spec = tie.close (tie.spec
    (λ c κs. search rules)  -- allowed-requires
    (λ c κs. search piecing)  -- take-requires
    (λ c. search rules)  -- same-length
    (λ c. search rules)  -- same-length-2
    (λ c. search rules)  -- returns
    (λ c κs. search rules)  -- clear-requires
    (λ c. search rules)  -- same-length
    (λ c. search piecing))  -- returns-2
