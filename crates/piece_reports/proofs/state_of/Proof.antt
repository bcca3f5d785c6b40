use Rattle.piece_reports.proofs.Keeping.{keeping}
use borrow.Author.Rules.{rules}
use Rattle.piece_reports.proofs.state_of.Statement.{statement}
use Rattle.piece_reports.proofs.state_of.Tie as tie

pub state_of_spec : {M : Type 1} → statement M
state_of_spec = tie.close (tie.spec
    (λ c. search rules)  -- element-copy-out-state-for
    (λ c. search rules)  -- element-copy-out-state-for-2
    (λ c. search rules)  -- element-copy-out-state-for-3
    (λ c. search rules)  -- element-copy-out-state-for-4
    (λ c. search rules)  -- element-copy-out-state-for-5
    (λ c. search rules)  -- element-copy-out-state-for-6
    (λ c κs. search rules)  -- state-for-requires
    (λ c. search keeping))  -- returns
