use Rattle.content.proofs.Judging.{judging}
use borrow.Author.Rules.{rules}
use Rattle.content.proofs.inspect.Statement.{statement}
use Rattle.content.proofs.inspect.Tie as tie

pub inspect_spec : {M : Type 1} → statement M
inspect_spec = tie.close (tie.spec
    (λ c. search judging)  -- returns
    (λ c. search rules)  -- sub-if2
    (λ c. search judging)  -- returns-2
    (λ c κs. search rules)  -- part-requires
    (λ c κs. search rules)  -- judge-requires
    (λ c. search judging))  -- returns-3
