use Rattle.seeking.proofs.Narrowing.{seeking}
use borrow.Author.Rules.{rules}
use Rattle.seeking.proofs.between.Statement.{statement}
use Rattle.seeking.proofs.between.Tie as tie

pub between_spec : {M : Type 1} → statement M
between_spec = tie.close (tie.spec
    (λ c. search rules)  -- sub-t4
    (λ c. search rules)  -- add-t6
    (λ c. search seeking)  -- returns
    (λ c. search seeking))  -- returns-2
