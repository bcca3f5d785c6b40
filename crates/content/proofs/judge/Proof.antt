use Rattle.content.proofs.Judging.{judging}
use borrow.Author.Rules.{rules}
use Rattle.content.proofs.judge.Statement.{statement}
use Rattle.content.proofs.judge.Tie as tie

pub judge_spec : {M : Type 1} → statement M
judge_spec = tie.close (tie.spec
    (λ c. search rules)  -- enum-told
    (λ c κs. search rules)  -- is-double-requires
    (λ c κs. search rules)  -- judge-value-requires
    (λ c. search rules)  -- enum-told-2
    (λ c κs. search rules)  -- is-datetime-requires
    (λ c κs. search rules)  -- judge-value-requires-2
    (λ c. search rules)  -- enum-told-3
    (λ c. search rules)  -- enum-told-4
    (λ c κs. search rules)  -- is-utf8-requires
    (λ c κs. search rules)  -- fine-if-requires
    (λ c. search judging)  -- returns
    (λ c. search judging)  -- returns-2
    (λ c. search judging)  -- returns-3
    (λ c. search judging))  -- returns-4
