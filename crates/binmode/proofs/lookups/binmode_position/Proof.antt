use Rattle.binmode.proofs.Looking.{looking}
use borrow.Author.Rules.{rules}
use Rattle.binmode.proofs.lookups.binmode_position.Statement.{statement}
use Rattle.binmode.proofs.lookups.binmode_position.Tie as tie

pub binmode_position_spec : {M : Type 1} → statement M
binmode_position_spec = tie.close (tie.spec
    (λ c κs. search rules)  -- position-of-requires
    (λ c κs. search rules)  -- position-requires
    (λ c. search looking))  -- returns
