use Rattle.certificate.proofs.Judging.{zero_heads}
use borrow.Author.Rules.{rules}
use Rattle.certificate.proofs.judge.Statement.{statement}
use Rattle.certificate.proofs.judge.Tie as tie

pub judge_spec : {M : Type 1} → statement M
judge_spec = tie.close (tie.spec
    (λ c. search rules)  -- slice-aggregate-judge-rows
    (λ c. search rules)  -- slice-aggregate-judge-rows-2
    (λ c. search rules)  -- slice-aggregate-judge-rows-3
    (λ c. search rules)  -- slice-aggregate-judge-rows-4
    (λ c. search rules)  -- slice-aggregate-judge-rows-5
    (λ c κs. (search rules, search rules, search rules, search rules, zero_heads, search rules, search rules))  -- judge-rows-requires
    (λ c. search rules))  -- returns
