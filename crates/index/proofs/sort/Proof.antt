use Rattle.index.proofs.Arranging.{sort_done}
use borrow.Author.Rules.{rules}
use Rattle.index.proofs.sort.Statement.{statement}
use Rattle.index.proofs.sort.Tie as tie

pub sort_spec : {M : Type 1} → statement M
sort_spec = tie.close (tie.spec
    (λ c κs. search rules)  -- gather-requires
    (λ c κs. search rules)  -- sort-front-requires
    (λ c. search rules)  -- mul-clear
    (λ c. search rules)  -- sub-clear
    (λ c. search rules)  -- part-clear-start
    (λ c. search rules)  -- part-clear-end
    (λ c κs. search rules)  -- clear-requires
    (λ c. search rules)  -- same-length
    (λ c. search sort_done))  -- returns
