use Rattle.content.proofs.Judging.{judging}
use borrow.Author.Rules.{rules}
use Rattle.content.proofs.fine_if.Statement.{statement}
use Rattle.content.proofs.fine_if.Tie as tie

pub fine_if_spec : {M : Type 1} → statement M
fine_if_spec = tie.close (tie.spec
    (λ c. search rules)  -- returns
    (λ c. search judging))  -- returns-2
