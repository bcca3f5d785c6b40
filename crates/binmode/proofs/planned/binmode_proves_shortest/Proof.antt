use Rattle.binmode.proofs.Planning.{planned}
use borrow.Author.Rules.{rules}
use Rattle.binmode.proofs.planned.binmode_proves_shortest.Statement.{statement}
use Rattle.binmode.proofs.planned.binmode_proves_shortest.Tie as tie

pub binmode_proves_shortest_spec : {M : Type 1} → statement M
binmode_proves_shortest_spec = tie.close (tie.spec
    (λ c κs. search rules)  -- proves-requires
    (λ c. search planned)  -- returns
    (λ c. search planned))  -- returns-2
