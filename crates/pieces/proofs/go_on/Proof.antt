use borrow.Author.Rules.{rules}
use Rattle.pieces.proofs.Piecing.{piecing}
use Rattle.pieces.proofs.go_on.Statement.{statement}
use Rattle.pieces.proofs.go_on.Tie as tie

pub go_on_spec : {M : Type 1} → statement M
go_on_spec = tie.close (tie.spec
    (λ c. search piecing)  -- returns
    (λ c κs. search rules)  -- hold-requires
    (λ c κs. search rules)  -- still-requires
    (λ c. search rules)  -- same-length
    (λ c. search piecing)  -- returns-2
    (λ c. search rules)  -- sub-settle
    (λ c. search rules)  -- part-settle-start
    (λ c. search rules)  -- part-settle-end
    (λ c κs. search rules)  -- settle-requires
    (λ c. search rules)  -- same-length-2
    (λ c. search rules)  -- same-length-3
    (λ c. search piecing))  -- returns-3
