use Rattle.shape.proofs.Calling.{table_judged}
use borrow.Author.Rules.{rules}
use Rattle.shape.proofs.writable.Statement.{statement}
use Rattle.shape.proofs.writable.Tie as tie

pub writable_spec : {M : Type 1} → statement M
writable_spec = tie.close (tie.spec
    (λ c κs. search rules)  -- writable-to-requires
    (λ c. search table_judged))  -- returns
