use Rattle.content.proofs.Judging.{judging}
use borrow.Author.Rules.{rules}
use Rattle.content.proofs.judge_value.Statement.{statement}
use Rattle.content.proofs.judge_value.Tie as tie

pub judge_value_spec : {M : Type 1} → statement M
judge_value_spec = tie.close (tie.spec
    (λ c. search rules)  -- returns
    (λ c κs. search rules)  -- is-ascii-requires
    (λ c. search judging)  -- returns-2
    (λ c. search judging))  -- returns-3
