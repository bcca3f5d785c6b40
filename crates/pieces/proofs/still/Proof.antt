use borrow.Author.Rules.{rules}
use Rattle.pieces.proofs.Piecing.{piecing}
use Rattle.pieces.proofs.still.Statement.{statement}
use Rattle.pieces.proofs.still.Tie as tie

pub still_spec : {M : Type 1} → statement M
still_spec = tie.close (tie.spec
    (λ c. search rules)  -- sub-if1
    (λ c. search piecing)  -- returns
    (λ c. search rules)  -- add-t5
    (λ c. search piecing))  -- returns-2
