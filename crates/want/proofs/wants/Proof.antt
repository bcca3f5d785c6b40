use Rattle.want.proofs.Wanting.{wanting}
use borrow.Author.Rules.{rules}
use Rattle.want.proofs.wants.Statement.{statement}
use Rattle.want.proofs.wants.Tie as tie

pub wants_spec : {M : Type 1} → statement M
wants_spec = tie.close (tie.spec
    (λ c. search rules)  -- add-result
    (λ c. search wanting)  -- returns
    (λ c. search rules)  -- shared-slice-read-match
    (λ c. search rules)  -- add-result-2
    (λ c κs. search rules)  -- short-end-requires
    (λ c κs. search rules)  -- short-end-requires-2
    (λ c κs. search rules)  -- long-end-requires
    (λ c. search rules)  -- add-result-3
    (λ c. search rules)  -- add-result-4
    (λ c κs. search rules)  -- long-end-requires-2
    (λ c κs. search rules)  -- long-end-requires-3
    (λ c. search rules)  -- add-result-5
    (λ c. search rules)  -- add-result-6
    (λ c. search wanting)  -- returns-2
    (λ c. search wanting)  -- returns-3
    (λ c. search wanting)  -- returns-4
    (λ c. search wanting)  -- returns-5
    (λ c. search wanting)  -- returns-6
    (λ c. search wanting)  -- returns-7
    (λ c. search wanting)  -- returns-8
    (λ c. search wanting)  -- returns-9
    (λ c. search wanting)  -- returns-10
    (λ c. search wanting))  -- returns-11
