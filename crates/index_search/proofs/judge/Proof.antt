use Rattle.index_search.proofs.Stepping.{asking}
use borrow.Author.Rules.{rules}
use Rattle.index_search.proofs.judge.Statement.{statement}
use Rattle.index_search.proofs.judge.Tie as tie

pub judge_spec : {M : Type 1} → statement M
judge_spec = tie.close (tie.spec
    (λ c κs. search rules)  -- writable-requires
    (λ c. search asking)  -- returns
    (λ c. search asking))  -- returns-2
