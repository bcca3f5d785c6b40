use Rattle.fault.proofs.Judging.{judging}
use borrow.Author.Rules.{rules}
use Rattle.fault.proofs.judge.Statement.{statement}
use Rattle.fault.proofs.judge.Tie as tie

pub judge_spec : {M : Type 1} → statement M
judge_spec = tie.close (tie.spec
    (λ c. search rules)  -- add-first
    (λ c. search rules)  -- add-second
    (λ c. search rules)  -- add-if1
    (λ c. search judging)  -- returns
    (λ c κs. search rules)  -- is-code-requires
    (λ c κs. search rules)  -- is-message-requires
    (λ c κs. search rules)  -- is-message-requires-2
    (λ c κs. search rules)  -- is-code-requires-2
    (λ c. search judging)  -- returns-2
    (λ c. search judging))  -- returns-3
