use borrow.Author.Rules.{rules}
use Rattle.pieces.proofs.Piecing.{piecing}
use Rattle.pieces.proofs.refusal_of.Statement.{statement}
use Rattle.pieces.proofs.refusal_of.Tie as tie

pub refusal_of_spec : {M : Type 1} → statement M
refusal_of_spec = tie.close (tie.spec
    (λ c. search piecing)  -- returns
    (λ c κs. search rules)  -- refusal-of-requires
    (λ c. search piecing))  -- returns-2
