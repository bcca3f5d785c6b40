use Rattle.content.proofs.Judging.{judging}
use borrow.Author.Rules.{rules}
use Rattle.content.proofs.judge_name.Statement.{statement}
use Rattle.content.proofs.judge_name.Tie as tie

pub judge_name_spec : {M : Type 1} → statement M
judge_name_spec = tie.close (tie.spec
    (λ c κs. search rules)  -- is-standard-name-requires
    (λ c. search judging)  -- returns
    (λ c. search judging))  -- returns-2
