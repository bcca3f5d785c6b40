use Rattle.seeking.proofs.Narrowing.{seeking}
use borrow.Author.Rules.{rules}
use Rattle.seeking.proofs.begin.Statement.{statement}
use Rattle.seeking.proofs.begin.Tie as tie

pub begin_spec : {M : Type 1} → statement M
begin_spec = tie.close (tie.spec
    (λ c κs. search rules)  -- between-requires
    (λ c. search seeking)  -- returns
    (λ c κs. search rules)  -- ended-requires
    (λ c. search seeking))  -- returns-2
