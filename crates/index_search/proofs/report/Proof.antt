use Rattle.index_search.proofs.Stepping.{answering}
use borrow.Author.Rules.{rules}
use Rattle.index_search.proofs.report.Statement.{statement}
use Rattle.index_search.proofs.report.Tie as tie

pub report_spec : {M : Type 1} → statement M
report_spec = tie.close (tie.spec
    (λ c κs. search rules)  -- answer-requires
    (λ c κs. search rules)  -- report-of-requires
    (λ c. search answering))  -- returns
